-- Where a jump goes.
use Rattle.std.proofs.Common.{◌≡◌, ℕ, suc, ◌+◌, Bool, true, false, List, [], ◌∷◌, Some, ℤ, pos, refl, ap, ◌∙◌, subst, arith, if◌then◌else◌}
use Rattle.std.specs.Prelude.{slice_get}
use Rattle.std.specs.Ordering.{int_eq}
use Rattle.std.proofs.lemmas.Bool.Decides.{Decides-int_eq}
use Rattle.bc_ops.specs.declared.listing.Target.TheVariants.{Position}
use Rattle.bc_ops.specs.Listing.{target}
use Rattle.bc_labels.specs.Positions.{CodeList, Listed, Arrives}
use Rattle.bc_labels.proofs.Pieces.{one}

-- where a target has a position, that is the position of the offset that it is
target_is : (ss : List ℕ) (k q : ℕ) (z : ℤ) → target ss k z ≡ Position q → (i : ℕ) × (q ≡ k + i) × (o : ℕ) × (slice_get ss i ≡ Some o) × (z ≡ pos o)
target_is [] k q z e = cc
target_is (x ∷ xs) k q z e = by_test (int_eq z (pos x)) refl e (target_is xs (k + 1) q z)
  where
    by_test : (b : Bool) → int_eq z (pos x) ≡ b → (if b then Position k else target xs (k + 1) z) ≡ Position q
        → (target xs (k + 1) z ≡ Position q → (i : ℕ) × (q ≡ k + 1 + i) × (o : ℕ) × (slice_get xs i ≡ Some o) × (z ≡ pos o))
        → (i : ℕ) × (q ≡ k + i) × (o : ℕ) × (slice_get (x ∷ xs) i ≡ Some o) × (z ≡ pos o)
    by_test true t e ih = let h : k ≡ q = cc in (0, omega (arith, h), x, refl, (Decides-int_eq z (pos x)).0 t)
    by_test false t e ih = let r = ih e in (suc r.0, (let h = r.1 in omega (arith, h)), r.2, r.3, r.4)

pub arrives : (bytes : List ℕ) (l : CodeList) (z : ℤ) (q : ℕ) → Listed bytes l → target l.offsets 0 z ≡ Position q → Arrives l z q
arrives bytes l z q ls e =
    let r = target_is l.offsets 0 q z e in
    let i : r.0 ≡ q = (let h = r.1 in omega (arith, h)) in
    let at : slice_get l.offsets q ≡ Some r.2 = subst (λ (k : ℕ). slice_get l.offsets k ≡ Some r.2) i r.3 in
    let there = one bytes l q r.2 ls at in
    record { offset = r.2; is = r.4; starts = ap (slice_get l.offsets) there ∙ at; there = there }
