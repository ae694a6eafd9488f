use Rattle.std.proofs.Common.{◌≡◌, ◌++◌, List, [], ℕ, drop, refl, ap, sym, ◌∙◌, arith}
use Rattle.std.proofs.lemmas.List.{take_all, length-drop}
use Rattle.mpy_base.specs.Vuint.{vuint, high_groups}
use Rattle.mpy_base.proofs.Groups.{none_above, one_group}
use Rattle.mpy_base.proofs.vuint.write_vuint.Goals as goal

pub loop-high-init : goal.loop-high-init
unfolding vuint
loop-high-init c = record { room = omega arith; size = refl; below = omega arith; written = refl }

pub returns-clause-ok : goal.returns-clause-ok
returns-clause-ok c =
    let h = c.in_ok-extend_from_slice.ensures.items in
    let zero : c.loop-high.high ≡ 0 = omega arith in
    let none : high_groups c.loop-high.first c.loop-high.high ≡ [] = ap (high_groups c.loop-high.first) zero ∙ none_above c.loop-high.first in
    let written : drop c.loop-high.first c.loop-high.groups ≡ vuint c.args.n = sym (ap (λ (ys : List ℕ). ys ++ drop c.loop-high.first c.loop-high.groups) none) ∙ c.loop-high.invariant.written in
    h ∙ ap (λ (ys : List ℕ). c.args.out.now.items ++ ys) (take_all _ (drop c.loop-high.first c.loop-high.groups) (omega (arith, length-drop c.loop-high.first c.loop-high.groups)) ∙ written)

pub returns-then-n-lt128-clause-ok : goal.returns-then-n-lt128-clause-ok
returns-then-n-lt128-clause-ok c = c.in_ok-push.ensures.items ∙ ap (λ (ys : List ℕ). c.args.out.now.items ++ ys) (sym (one_group c.args.n c.if-n-lt128.true))
