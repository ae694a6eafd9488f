-- The first place of a part of a str.
use Rattle.std.proofs.Common.{◌≡◌, ℕ, zero, suc, ◌+◌, ◌≤◌, ◌<◌, ◌^◌, ℤ, pos, negsuc, List, [], ◌∷◌, length, take, drop, Bool, true, false, cond, Some, None, Result, refl, sym, ap, ◌∙◌, arith, length-drop, length-take}
use Rattle.std.specs.Prelude.{nat_eq}
use Rattle.std.specs.List.{starts_with}
use Rattle.std.proofs.lemmas.Slice.Eq.{bytes_eq-Decides}
use Rattle.std.proofs.lemmas.Int.{ints}
use Rattle.memchr.specs.Find.{FindsNeedle}
use Rattle.memchr.proofs.lemmas.MatchLemmas.{OccursAt-part, OccursAt-from_part}
use Rattle.mpy_base.specs.Val.{Val, Int}
use Rattle.prim_builtins.specs.py_values.Shown.{PlainHeap, Shown, Text, is_empty}
use Rattle.prim_builtins.specs.py_values.Range.{IsSmall}
use Rattle.prim_builtins.specs.py_values.Small.{checked}
use Rattle.prim_builtins.proofs.py_values_lemmas.Range.{checked_small}
use Rattle.prim_builtins.specs.py_values.declared.small_int.NumFault.{NumFault}
use Rattle.prim_builtins.specs.py_primitives.Outcome.{gives}
use Rattle.prim_builtins.specs.py_primitives.Operators.{gives_number}
use Rattle.prim_builtins.specs.py_primitives.Methods.{of_str, found_from}
use Rattle.prim_builtins.proofs.SmallCounts.{count_small}

module _ (part : List ℕ) where
  -- the part stands at this place
  abbrev pub Reads : List ℕ → ℕ → Type 0
  Reads bytes at = take (length part) (drop at bytes) ≡ part

  pub begins : (bytes : List ℕ) → take (length part) bytes ≡ part → starts_with nat_eq bytes part ≡ true
  begins bytes e = (bytes_eq-Decides part (take (length part) bytes)).1 (sym e)

  by_test : (bytes : List ℕ) (b : Bool) → starts_with nat_eq bytes part ≡ b → (take (length part) bytes ≡ part → ⊥) → b ≡ false
  by_test bytes true e other = absurd (other (sym ((bytes_eq-Decides part (take (length part) bytes)).0 e)))
  by_test bytes false e other = refl

  pub begins_not : (bytes : List ℕ) → (take (length part) bytes ≡ part → ⊥) → starts_with nat_eq bytes part ≡ false
  begins_not bytes other = by_test bytes (starts_with nat_eq bytes part) refl other

  pub fits : (bytes : List ℕ) (at : ℕ) → at ≤ length bytes → Reads bytes at → at + length part ≤ length bytes
  fits bytes at le e =
      let whole : length (take (length part) (drop at bytes)) ≡ length part = ap length e in
      omega (arith, whole, length-take (length part) (drop at bytes), length-drop at bytes)

  nothing : (e : take (length part) [] ≡ part) → is_empty part ≡ true
  nothing e = sym (ap is_empty (sym (nothing_taken (length part)) ∙ e))
    where
      nothing_taken : (n : ℕ) → take {A = ℕ} n [] ≡ []
      nothing_taken zero = refl
      nothing_taken (suc n) = refl

  found_at : (bytes : List ℕ) (k at : ℕ) → k ≤ length bytes → Reads bytes k → ((j : ℕ) → j < k → Reads bytes j → ⊥) → found_from at part bytes ≡ pos (at + k)
  found_at [] zero at le e before = ap (λ (b : Bool). cond b (pos at) (negsuc 0)) (nothing e) ∙ ap pos (omega arith)
  found_at [] (suc k) at le e before = absurd (omega arith)
  found_at (byte ∷ bytes) zero at le e before = ap (λ (b : Bool). cond b (pos at) (found_from (at + 1) part bytes)) (begins (byte ∷ bytes) e) ∙ ap pos (omega arith)
  found_at (byte ∷ bytes) (suc k) at le e before =
      ap (λ (b : Bool). cond b (pos at) (found_from (at + 1) part bytes)) (begins_not (byte ∷ bytes) (before zero (omega arith)))
      ∙ (found_at bytes k (at + 1) (omega arith) e (λ j lt r. before (suc j) (omega arith) r) ∙ ap pos (omega arith))

  something : (part' : List ℕ) → (take (length part') [] ≡ part' → ⊥) → is_empty part' ≡ false
  something [] other = absurd (other refl)
  something (p ∷ ps) other = refl

  nowhere : (bytes : List ℕ) (at : ℕ) → ((k : ℕ) → k ≤ length bytes → Reads bytes k → ⊥) → found_from at part bytes ≡ negsuc 0
  nowhere [] at none = ap (λ (b : Bool). cond b (pos at) (negsuc 0)) (something part (none zero (omega arith)))
  nowhere (byte ∷ bytes) at none =
      ap (λ (b : Bool). cond b (pos at) (found_from (at + 1) part bytes)) (begins_not (byte ∷ bytes) (none zero (omega arith)))
      ∙ nowhere bytes (at + 1) (λ k le e. none (suc k) (omega arith) e)

  -- what a search finds
  pub place_found : (bytes : List ℕ) (k : ℕ) → FindsNeedle bytes part 0 (Some k) → found_from 0 part bytes ≡ pos k
  place_found bytes k found =
      let f = found.1.fits in
      found_at bytes k 0 (omega arith) (OccursAt-part bytes part k found.1)
      (λ j lt r. found.0.before j (omega arith) lt (OccursAt-from_part bytes part j (fits bytes j (omega arith) r) r))
      ∙ ap pos (omega arith)

  pub place_nowhere : (bytes : List ℕ) → FindsNeedle bytes part 0 None → found_from 0 part bytes ≡ negsuc 0
  place_nowhere bytes found = nowhere bytes 0 (λ k le e. found k (omega arith) (omega arith) (OccursAt-from_part bytes part k (fits bytes k le e) e))

-- what stands nowhere
pub nowhere_small : IsSmall (negsuc 0)
nowhere_small = grind (arith, ints)
