use Rattle.std.proofs.Common.{◌≡◌, ◌+◌, ◌-◌, ◌<◌, ℕ, length, take, drop, None, sym, subst, arith}
use Rattle.prim_modules.proofs.Fronts.{outer, dot_here}
use Rattle.prim_modules.proofs.dots.last_dot.Goals as goal

pub returns-then-name-at-eq46-clause-outer : goal.returns-then-name-at-eq46-clause-outer
returns-then-name-at-eq46-clause-outer c =
    let name = c.args.name.now in
    let at = c.loop-at.at in
    let lt : at - 1 < length name = omega arith in
    let next : at - 1 + 1 ≡ at = omega arith in
    dot_here name (at - 1) lt (subst (λ (n : ℕ). outer (take n name) (drop n name) ≡ None) (sym next) c.loop-at.invariant.0) c.if-name-at-eq46.true
