-- Shifts by 31 bits and more.
use Rattle.std.proofs.Common.{◌≡◌, ℕ, zero, suc, ◌*◌, ◌%◌, ◌^◌, ◌≤◌, ◌<◌, min, ℤ, pos, negsuc, ◌*ℤ◌, unsigned_abs, Ok, inl, inr, w32, w64, to_z-of_z, SFits, to_z, of_z, refl, sym, ap, ap₂, ◌∙◌, subst, arith, pow_mono, lit<, mul-le-mul_right}
use Rattle.std.proofs.Math.Nat.{div-eq_of_lt}
use Rattle.std.proofs.lemmas.Nat.{one_shl, shr_le}
use Rattle.std.proofs.lemmas.Bool.{cases_lt}
use Rattle.std.proofs.lemmas.Int.{ints, fits_signed_mul, to_z_pos}
use Rattle.std.specs.Int.{int_shr}
use Rattle.py_values.specs.Range.{IsSmall}
use Rattle.py_values.specs.Small.{checked}
use Rattle.py_values.specs.Shifts.{bits_of, shl_of, shr_of}
use Rattle.py_values.specs.Division.{floor_quotient}
use Rattle.py_values.proofs.Range.{IsBig, checked_big, small_fits, widened}

-- nothing but 0 stays in range
big_product : (a : ℤ) (x : ℕ) → 1 ≤ unsigned_abs a → 2 ^ 31 ≤ x → IsBig (a *ℤ pos x)
big_product (pos m) x h k = let s = mul-le-mul_right x h in inr (omega (arith, ints))
big_product (negsuc m) x h k = let s = mul-le-mul_right x h in inl (omega (arith, ints))

zero_product : (a : ℤ) (x y : ℕ) → unsigned_abs a < 1 → a *ℤ pos x ≡ a *ℤ pos y
zero_product (pos zero) x y h = ap pos (omega arith)
zero_product (pos (suc m)) x y h = absurd (omega arith)
zero_product (negsuc m) x y h = absurd (omega arith)

far_left : (a : ℤ) (n : ℕ) → 31 ≤ n → checked (a *ℤ pos (2 ^ 31)) ≡ checked (a *ℤ pos (2 ^ n))
far_left a n h =
    elim (cases_lt (unsigned_abs a) 1) [ inl k ↦ ap checked (zero_product a (2 ^ 31) (2 ^ n) k) | inr k ↦ checked_big _ (big_product a (2 ^ 31) k (omega arith)) ∙ sym (checked_big _ (big_product a (2 ^ n) k (pow_mono h))) ]

pub shifted_left : (a : ℤ) (n : ℕ) → checked (a *ℤ pos (2 ^ min n 31)) ≡ checked (a *ℤ pos (2 ^ n))
shifted_left a n =
    elim (cases_lt n 31) [ inl h ↦ let e : min n 31 ≡ n = omega arith in ap (λ k. checked (a *ℤ pos (2 ^ k))) e | inr h ↦ let e : min n 31 ≡ 31 = omega arith in ap (λ k. checked (a *ℤ pos (2 ^ k))) e ∙ far_left a n h ]

-- only the sign is left
far_right : (a : ℤ) (x y : ℕ) → IsSmall a → 2 ^ 31 ≤ x → 2 ^ 31 ≤ y → floor_quotient a (pos x) ≡ floor_quotient a (pos y)
far_right (pos m) x y h j k =
    let p : m < x = omega (arith, ints) in
    let q : m < y = omega (arith, ints) in
    ap pos (div-eq_of_lt p ∙ sym (div-eq_of_lt q))
far_right (negsuc m) x y h j k =
    let p : m < x = omega (arith, ints) in
    let q : m < y = omega (arith, ints) in
    ap negsuc (div-eq_of_lt p ∙ sym (div-eq_of_lt q))

pub shifted_right : (a : ℤ) (n : ℕ) → IsSmall a → floor_quotient a (pos (2 ^ min n 31)) ≡ floor_quotient a (pos (2 ^ n))
shifted_right a n s =
    elim (cases_lt n 31) [ inl h ↦ let e : min n 31 ≡ n = omega arith in ap (λ k. floor_quotient a (pos (2 ^ k))) e | inr h ↦ let e : min n 31 ≡ 31 = omega arith in ap (λ k. floor_quotient a (pos (2 ^ k))) e ∙ far_right a (2 ^ 31) (2 ^ n) s (omega arith) (pow_mono h) ]

-- ---- as the code has them

few : (b : ℤ) (k : ℕ) → Ok k ≡ bits_of b → k ≤ 31
few (pos n) k e = let s : k ≡ min n 31 = cc in omega arith
few (negsuc n) k e = absurd cc

factor_is : (k : ℕ) → k ≤ 31 → to_z w64 (1 * 2 ^ k % 2 ^ 64) ≡ pos (2 ^ k)
factor_is k h =
    let p : 2 ^ k ≤ 2 ^ 31 = pow_mono h in
    ap (to_z w64) (one_shl k 64 (omega arith)) ∙ to_z_pos w64 (2 ^ k) (omega arith)

abs_small : (a : ℤ) → IsSmall a → unsigned_abs a ≤ 2 ^ 30
abs_small (pos m) h = omega (arith, ints)
abs_small (negsuc m) h = omega (arith, ints)

product_fits : (a : ℤ) (k : ℕ) → IsSmall a → k ≤ 31 → SFits w64 (a *ℤ pos (2 ^ k))
product_fits a k s h = fits_signed_mul w64 a (pos (2 ^ k)) (2 ^ 30) (2 ^ 31) (abs_small a s) (pow_mono h) (lit< tt)

module _ (a b v r : ℤ) (k : ℕ) (s : IsSmall a) (p : v ≡ a) (e : Ok k ≡ bits_of b) where
  factors : r ≡ to_z w32 (of_z w32 v) → to_z w64 (of_z w64 r) *ℤ to_z w64 (1 * 2 ^ k % 2 ^ 64) ≡ a *ℤ pos (2 ^ k)
  factors q = ap₂ ◌*ℤ◌ (widened r a (q ∙ ap (λ z. to_z w32 (of_z w32 z)) p ∙ to_z-of_z (small_fits a s)) (small_fits a s)) (factor_is k (few b k e))

  pub left_fits : r ≡ to_z w32 (of_z w32 v) → SFits w64 (to_z w64 (of_z w64 r) *ℤ to_z w64 (1 * 2 ^ k % 2 ^ 64))
  left_fits q = subst (SFits w64) (sym (factors q)) (product_fits a k s (few b k e))

  pub left_is : r ≡ to_z w32 (of_z w32 v) → checked (to_z w64 (of_z w64 (to_z w64 (of_z w64 r) *ℤ to_z w64 (1 * 2 ^ k % 2 ^ 64)))) ≡ shl_of a b
  left_is q = ap checked (to_z-of_z (left_fits q) ∙ factors q) ∙ answer b e
    where
      answer : (b : ℤ) → Ok k ≡ bits_of b → checked (a *ℤ pos (2 ^ k)) ≡ shl_of a b
      answer (pos n) e = let s : k ≡ min n 31 = cc in ap (λ i. checked (a *ℤ pos (2 ^ i))) s ∙ shifted_left a n
      answer (negsuc n) e = absurd cc

  pub right_is : r ≡ to_z w32 (of_z w32 (int_shr (to_z w32 (of_z w32 v)) k)) → checked (to_z w64 (of_z w64 r)) ≡ shr_of a b
  right_is q =
      let f = right_fits a s in
      let value = ap (λ z. int_shr z k) (ap (λ z. to_z w32 (of_z w32 z)) p ∙ to_z-of_z (small_fits a s)) in
      ap checked (widened r (int_shr a k) (q ∙ ap (λ z. to_z w32 (of_z w32 z)) value ∙ to_z-of_z f) f ∙ shr_is a) ∙ answer b e
    where
      right_fits : (a : ℤ) → IsSmall a → SFits w32 (int_shr a k)
      right_fits (pos m) s = record { sfits = omega (arith, ints, shr_le m k) }
      right_fits (negsuc m) s = record { sfits = omega (arith, ints, shr_le m k) }

      shr_is : (a : ℤ) → int_shr a k ≡ floor_quotient a (pos (2 ^ k))
      shr_is (pos m) = refl
      shr_is (negsuc m) = refl

      answer : (b : ℤ) → Ok k ≡ bits_of b → checked (floor_quotient a (pos (2 ^ k))) ≡ shr_of a b
      answer (pos n) e = let s' : k ≡ min n 31 = cc in ap (λ i. checked (floor_quotient a (pos (2 ^ i)))) s' ∙ ap checked (shifted_right a n s)
      answer (negsuc n) e = absurd cc
