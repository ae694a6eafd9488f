use Rattle.std.proofs.Common.{◌≡◌, ◌∙◌, ◌++◌, List, ◌∷◌, [], length, refl, sym, ap, arith, append_assoc}
use Rattle.std.proofs.lemmas.List.{append-nil}
use Rattle.std.specs.Vec.Iter.{into_iter_items}
use Rattle.py_parser.proofs.stmt.append.Goals as goal

no_length : {A : Type 0} → (xs : List A) → length xs ≡ 0 → xs ≡ []
no_length [] e = refl
no_length (x ∷ xs) e = absurd (omega (arith, e))

pub loop-one-preserved : goal.loop-one-preserved
loop-one-preserved g c =
    let steps = c.in-Some.ensures.steps in
    let counted = ap length steps.0 in (
      ap (λ q. q ++ into_iter_items c.next.new.self) c.in_ok-push.ensures.ok ∙ append_assoc c.loop-one.found (c.in-Some.one ∷ []) (into_iter_items c.next.new.self)
          ∙ ap (λ q. c.loop-one.found ++ q) (sym steps.0) ∙ c.loop-one.invariant.0,
      omega (arith, counted, steps.1, c.loop-one.invariant.1),
    )

pub returns : goal.returns
returns g c =
    let none = no_length (into_iter_items c.loop-one.one-iterator) (sym c.loop-one.invariant.1 ∙ c.in-None.ensures.steps.0) in
    sym (append-nil c.loop-one.found) ∙ ap (λ q. c.loop-one.found ++ q) (sym none) ∙ c.loop-one.invariant.0
