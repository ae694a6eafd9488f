-- What the check of the range gives.
use Rattle.std.proofs.Common.{◌≡◌, ◌^◌, ◌⊎◌, ℤ, pos, negsuc, neg_ℤ, ◌≤ℤ◌, ◌<ℤ◌, Ok, Err, Some, None, w32, w64, SFits, to_z, of_z, cond, true, false, inl, inr, arith, refl}
use Rattle.std.proofs.lemmas.Int.{ints}
use Rattle.std.specs.Result.{result_ok}
use Rattle.py_values.specs.Range.{IsSmall, is_small}
use Rattle.py_values.specs.Small.{checked}
use Rattle.py_values.specs.declared.small_int.NumFault.{NumFault}
use Rattle.py_values.specs.declared.small_int.NumFault.TheVariants.{Overflow}

-- out of range
abbrev pub IsBig : ℤ → Type 0
IsBig z = (z <ℤ neg_ℤ (pos (2 ^ 30))) ⊎ (pos (2 ^ 30) ≤ℤ z)

small_test : (z : ℤ) → IsSmall z → is_small z ≡ true
small_test z h = grind (arith, ints)

low_test : (z : ℤ) → z <ℤ neg_ℤ (pos (2 ^ 30)) → is_small z ≡ false
low_test z h = grind (arith, ints)

high_test : (z : ℤ) → pos (2 ^ 30) ≤ℤ z → is_small z ≡ false
high_test z h = grind (arith, ints)

pub checked_small : (z : ℤ) → IsSmall z → checked z ≡ Ok z
unfolding checked
checked_small z h = rw (small_test z h)

pub checked_big : (z : ℤ) → IsBig z → checked z ≡ Err Overflow
unfolding checked
checked_big z (inl h) = rw (low_test z h)
checked_big z (inr h) = rw (high_test z h)

-- what an answer says of the number
pub number_of_ok : (z x : ℤ) → checked z ≡ Ok x → z ≡ x
unfolding checked
number_of_ok z x = elim (is_small z) as (λ b. cond b (Ok z) (Err Overflow) ≡ Ok x → z ≡ x) [ true ↦ λ e. cc | false ↦ λ e. absurd cc ]

pub fault_of_err : (z : ℤ) (e : NumFault) → checked z ≡ Err e → e ≡ Overflow
unfolding checked
fault_of_err z e = elim (is_small z) as (λ b. cond b (Ok z) (Err Overflow) ≡ Err e → e ≡ Overflow) [ true ↦ λ h. absurd cc | false ↦ λ h. cc ]

-- the test alone
pub checked_ok : (z : ℤ) → result_ok (checked z) ≡ cond (is_small z) (Some z) None
unfolding checked
checked_ok z = elim (is_small z) as (λ b. result_ok (cond b (Ok z) (Err Overflow)) ≡ cond b (Some z) None) [ true ↦ refl | false ↦ refl ]

-- small integers fit the types of the code
pub small_fits : (z : ℤ) → IsSmall z → SFits w32 z
small_fits (pos m) h = record { sfits = omega (arith, ints) }
small_fits (negsuc m) h = record { sfits = omega (arith, ints) }

pub widened : (r z : ℤ) → r ≡ z → SFits w32 z → to_z w64 (of_z w64 r) ≡ z
widened r z e f = omega (arith, ints)
