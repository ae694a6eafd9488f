-- The parts of strs.
use Rattle.std.proofs.Common.{◌≡◌, ℕ, zero, suc, ◌+◌, ◌≤◌, List, [], ◌∷◌, length, take, drop, Bool, true, false, cond, Option, Some, None, refl, sym, ap, ◌∙◌, arith, length-drop, length-take}
use Rattle.std.specs.Prelude.{is_some, nat_eq}
use Rattle.std.specs.List.{starts_with}
use Rattle.std.proofs.lemmas.Slice.Eq.{bytes_eq-Decides}
use Rattle.memchr.specs.Find.{FindsNeedle}
use Rattle.memchr.proofs.lemmas.MatchLemmas.{OccursAt-part, OccursAt-from_part}
use Rattle.prim_faults.specs.py_primitives.Operators.{is_part}

module _ (part : List ℕ) where
  -- the part stands at this place
  abbrev Reads : List ℕ → ℕ → Type 0
  Reads bytes at = take (length part) (drop at bytes) ≡ part

  begins : (bytes : List ℕ) → take (length part) bytes ≡ part → starts_with nat_eq bytes part ≡ true
  begins bytes e = (bytes_eq-Decides part (take (length part) bytes)).1 (sym e)

  by_test : (bytes : List ℕ) (b : Bool) → starts_with nat_eq bytes part ≡ b → (take (length part) bytes ≡ part → ⊥) → b ≡ false
  by_test bytes true e other = absurd (other (sym ((bytes_eq-Decides part (take (length part) bytes)).0 e)))
  by_test bytes false e other = refl

  begins_not : (bytes : List ℕ) → (take (length part) bytes ≡ part → ⊥) → starts_with nat_eq bytes part ≡ false
  begins_not bytes other = by_test bytes (starts_with nat_eq bytes part) refl other

  or_so : (b c : Bool) → c ≡ true → cond b true c ≡ true
  or_so true c e = refl
  or_so false c e = e

  part_at : (bytes : List ℕ) (at : ℕ) → at ≤ length bytes → Reads bytes at → is_part part bytes ≡ true
  part_at [] zero le e = begins [] e
  part_at [] (suc at) le e = absurd (omega arith)
  part_at (byte ∷ bytes) zero le e = ap (λ (b : Bool). cond b true (is_part part bytes)) (begins (byte ∷ bytes) e)
  part_at (byte ∷ bytes) (suc at) le e = or_so (starts_with nat_eq (byte ∷ bytes) part) (is_part part bytes) (part_at bytes at (omega arith) e)

  no_part : (bytes : List ℕ) → ((at : ℕ) → at ≤ length bytes → Reads bytes at → ⊥) → is_part part bytes ≡ false
  no_part [] none = begins_not [] (none zero (omega arith))
  no_part (byte ∷ bytes) none =
      ap (λ (b : Bool). cond b true (is_part part bytes)) (begins_not (byte ∷ bytes) (none zero (omega arith)))
      ∙ no_part bytes (λ at le e. none (suc at) (omega arith) e)

  fits : (bytes : List ℕ) (at : ℕ) → at ≤ length bytes → Reads bytes at → at + length part ≤ length bytes
  fits bytes at le e =
      let whole : length (take (length part) (drop at bytes)) ≡ length part = ap length e in
      omega (arith, whole, length-take (length part) (drop at bytes), length-drop at bytes)

  -- what a search finds
  pub part_found : (bytes : List ℕ) (r : Option ℕ) → FindsNeedle bytes part 0 r → is_some r ≡ is_part part bytes
  part_found bytes (Some at) found = sym (part_at bytes at (let f = found.1.fits in omega arith) (OccursAt-part bytes part at found.1))
  part_found bytes None found =
      sym (no_part bytes (λ at le e. found at (omega arith) (omega arith) (OccursAt-from_part bytes part at (fits bytes at le e) e)))
