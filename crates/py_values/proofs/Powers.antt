-- Powers: those of 0, 1 and -1 repeat, and the others grow.
use Rattle.std.proofs.Common.{◌≡◌, ◌≢◌, ℕ, zero, suc, ◌+◌, ◌*◌, ◌-◌, ◌/◌, ◌%◌, ◌^◌, ◌≤◌, ◌<◌, ℤ, pos, negsuc, ◌*ℤ◌, unsigned_abs, Err, inl, inr, w32, to_z, of_z, refl, sym, ap, ◌∙◌, subst, arith, add-one}
use Rattle.std.proofs.Math.Nat.{mul-le-mul, pow-zero, pow-succ', pow-le-pow_right}
use Rattle.std.proofs.lemmas.Bool.{cases_lt}
use Rattle.std.proofs.lemmas.Int.{ints, unsigned_abs-mul}
use Rattle.py_values.specs.declared.small_int.NumFault.TheVariants.{Overflow}
use Rattle.py_values.specs.Range.{IsSmall}
use Rattle.py_values.specs.Small.{checked}
use Rattle.py_values.specs.Power.{power}
use Rattle.py_values.proofs.Range.{IsBig, checked_big, checked_small}

pub power_none : (a : ℤ) → power a 0 ≡ pos 1
unfolding power
power_none a = refl

pub power_more : (a : ℤ) (n : ℕ) → power a (n + 1) ≡ a *ℤ power a n
unfolding power
power_more a n = rw add-one

-- ---- the powers of 0, 1 and -1

once : (a : ℤ) → a *ℤ pos 1 ≡ a
once (pos m) = omega (arith, ints)
once (negsuc m) = omega (arith, ints)

cube : (a : ℤ) → unsigned_abs a ≤ 1 → a *ℤ (a *ℤ a) ≡ a
cube (pos zero) h = refl
cube (pos (suc zero)) h = refl
cube (pos (suc (suc m))) h = absurd (omega arith)
cube (negsuc zero) h = refl
cube (negsuc (suc m)) h = absurd (omega arith)

odds : (a : ℤ) (n : ℕ) → unsigned_abs a ≤ 1 → power a (2 * n + 1) ≡ a
odds a zero h = power_more a 0 ∙ ap (λ z. a *ℤ z) (power_none a) ∙ once a
odds a (suc n) h =
    let e : 2 * suc n + 1 ≡ 2 * n + 1 + 1 + 1 = omega arith in
    ap (power a) e ∙ power_more a (2 * n + 1 + 1) ∙ ap (λ z. a *ℤ z) (power_more a (2 * n + 1) ∙ ap (λ z. a *ℤ z) (odds a n h)) ∙ cube a h

pub odd_power : (a : ℤ) (n : ℕ) → unsigned_abs a ≤ 1 → n % 2 ≢ 0 → power a n ≡ a
odd_power a n h o = let e : n ≡ 2 * (n / 2) + 1 = omega arith in ap (power a) e ∙ odds a (n / 2) h

pub even_power : (a : ℤ) (n : ℕ) → unsigned_abs a ≤ 1 → n ≢ 0 → n % 2 ≡ 0 → power a n ≡ a *ℤ a
even_power a n h p o =
    let e : n ≡ 2 * (n / 2 - 1) + 1 + 1 = omega arith in
    ap (power a) e ∙ power_more a (2 * (n / 2 - 1) + 1) ∙ ap (λ z. a *ℤ z) (odds a (n / 2 - 1) h)

-- ---- the others

abs_power : (a : ℤ) (n : ℕ) → unsigned_abs (power a n) ≡ unsigned_abs a ^ n
unfolding power
abs_power a zero = sym (pow-zero (unsigned_abs a))
abs_power a (suc n) = unsigned_abs-mul a (power a n) ∙ ap (λ k. unsigned_abs a * k) (abs_power a n) ∙ sym (pow-succ' (unsigned_abs a) n)

small_abs : (z : ℤ) → unsigned_abs z < 2 ^ 30 → IsSmall z
small_abs (pos n) h = (omega (arith, ints), omega (arith, ints))
small_abs (negsuc n) h = (omega (arith, ints), omega (arith, ints))

big_abs : (z : ℤ) → 2 ^ 31 ≤ unsigned_abs z → IsBig z
big_abs (pos n) h = inr (omega (arith, ints))
big_abs (negsuc n) h = inl (omega (arith, ints))

abs_big : (z : ℤ) → checked z ≡ Err Overflow → 2 ^ 30 ≤ unsigned_abs z
abs_big z e =
    elim (cases_lt (unsigned_abs z) (2 ^ 30)) [ inl h ↦ let k = checked_small z (small_abs z h) in absurd cc | inr h ↦ h ]

-- a base that is not 0 doubles at least
grows : (b k n : ℕ) → 2 ≤ b → 2 ^ 30 ≤ b ^ k → k < n → 2 ^ 31 ≤ b ^ n
grows b k n h e l =
    let p : 0 < b = omega arith in
    let u : b ^ suc k ≤ b ^ n = pow-le-pow_right p l in
    let v : 2 * 2 ^ 30 ≤ b * b ^ k = mul-le-mul h e in
    omega (arith, pow-succ' b k)

-- once a power is out of range, so are those that follow
pub stays_big : (a : ℤ) (k n : ℕ) → 2 ≤ unsigned_abs a → checked (power a k) ≡ Err Overflow → k ≤ n → checked (power a n) ≡ Err Overflow
stays_big a k n h e l =
    let b = abs_big (power a k) e in
    elim (cases_lt k n) [ inl s ↦ let g = grows (unsigned_abs a) k n h (subst (λ x. 2 ^ 30 ≤ x) (abs_power a k) b) s in checked_big (power a n) (big_abs (power a n) (subst (λ x. 2 ^ 31 ≤ x) (sym (abs_power a n)) g)) | inr s ↦ let same : n ≡ k = omega arith in ap (λ i. checked (power a i)) same ∙ e ]

-- ---- as the code has them

pub unit_square : (a : ℤ) → unsigned_abs a ≤ 1 → to_z w32 (of_z w32 (to_z w32 (of_z w32 a) *ℤ to_z w32 (of_z w32 a))) ≡ a *ℤ a
unit_square (pos zero) h = refl
unit_square (pos (suc zero)) h = refl
unit_square (pos (suc (suc m))) h = absurd (omega arith)
unit_square (negsuc zero) h = refl
unit_square (negsuc (suc m)) h = absurd (omega arith)
