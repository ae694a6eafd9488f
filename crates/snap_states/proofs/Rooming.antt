-- What objects take of cells and bytes.
use Rattle.std.proofs.Common.{◌≡◌, ℕ, ◌+◌, ◌<◌, ◌≤◌, ◌↔◌, List, ◌∷◌, length, map, drop, get_or, sym, ap, ◌∙◌, arith}
use Rattle.std.specs.Prelude.{sum}
use Rattle.std.proofs.lemmas.List.{drop_more}
use Rattle.std.proofs.lemmas.List.Sums.{sum_by-cons}
use Rattle.std.proofs.Math.ListN.{drop_of_length-le}
use Rattle.snap_grammar.specs.declared.parts.ObjectPart.{ObjectPart}

module _ (cost : ObjectPart → ℕ) (all : List ObjectPart) where
  -- the first of those that are left, and the others
  one_of : (i : ℕ) (o : ObjectPart) → i < length all → o ≡ get_or all i o → sum (map cost (drop i all)) ≡ cost o + sum (map cost (drop (i + 1) all))
  one_of i o lt is =
      ap (λ os. sum (map cost os)) (drop_more all i o lt ∙ ap (λ z. z ∷ drop (i + 1) all) (sym is))
      ∙ sum_by-cons (λ (x : ℕ). x) (cost o) (map cost (drop (i + 1) all))

  -- an object more fits what is left
  pub one_fits : (used left rest i : ℕ) (o : ObjectPart) → i < length all → o ≡ get_or all i o → rest + cost o ≡ left
      → (sum (map cost all) ≤ used) ↔ (sum (map cost (drop i all)) ≤ left) → (sum (map cost all) ≤ used) ↔ (sum (map cost (drop (i + 1) all)) ≤ rest)
  one_fits used left rest i o lt is e inv =
      let here = one_of i o lt is in (
        λ h. let small = inv.0 h in omega (arith, small, here, e),
        λ h. inv.1 (omega (arith, h, here, e)),
      )

  -- one that doesn't
  pub one_too_many : (used left i : ℕ) (o : ObjectPart) → i < length all → o ≡ get_or all i o → left < cost o
      → (sum (map cost all) ≤ used) ↔ (sum (map cost (drop i all)) ≤ left) → sum (map cost all) ≤ used → ⊥
  one_too_many used left i o lt is much inv h =
      let here = one_of i o lt is in
      let small = inv.0 h in omega (arith, small, here, much)

  pub all_fit : (used left i : ℕ) → length all ≤ i → (sum (map cost all) ≤ used) ↔ (sum (map cost (drop i all)) ≤ left) → sum (map cost all) ≤ used
  all_fit used left i le inv =
      let none : sum (map cost (drop i all)) ≡ 0 = ap (λ os. sum (map cost os)) (drop_of_length-le all le) in
      inv.1 (omega (arith, none))
