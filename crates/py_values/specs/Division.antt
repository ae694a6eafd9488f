-- Division that rounds towards minus infinity.
use Rattle.std.specs.Prelude.{◌≡◌, zero, suc, ℤ, pos, negsuc, neg_ℤ, ◌+ℤ◌, ◌*ℤ◌, ◌≤ℤ◌, ◌<ℤ◌, Result, Err}
use Rattle.std.specs.Int.{int_div_euclid, int_rem_euclid}
use Rattle.py_values.specs.declared.small_int.NumFault.{NumFault}
use Rattle.py_values.specs.declared.small_int.NumFault.TheVariants.{ZeroDivide}
use Rattle.py_values.specs.Small.{checked}

-- r lies from 0 towards the divisor b, and stops short of it
abbrev pub IsRemainder : ℤ → ℤ → Type 0
IsRemainder (pos b) r = (pos 0 ≤ℤ r) × (r <ℤ pos b)
IsRemainder (negsuc b) r = (negsuc b <ℤ r) × (r ≤ℤ pos 0)

-- a divided by b is q, and leaves r
pub record IsDivision (a b q r : ℤ) : Type 0 where
  pub whole : a ≡ q *ℤ b +ℤ r
  pub remainder : IsRemainder b r

-- the quotient and the remainder: a negative divisor turns the signs of both numbers
abbrev pub floor_quotient : ℤ → ℤ → ℤ
floor_quotient a (pos b) = int_div_euclid a (pos b)
floor_quotient a (negsuc b) = int_div_euclid (neg_ℤ a) (pos (suc b))

-- the remainder, which has the sign of the divisor
abbrev pub floor_remainder : ℤ → ℤ → ℤ
floor_remainder a (pos b) = int_rem_euclid a (pos b)
floor_remainder a (negsuc b) = neg_ℤ (int_rem_euclid (neg_ℤ a) (pos (suc b)))

-- z, unless the divisor is 0
abbrev pub unless_zero : ℤ → ℤ → Result ℤ NumFault
unless_zero (pos zero) z = Err ZeroDivide
unless_zero b z = checked z

-- the answer of a division, and what it leaves
abbrev pub floor_div_of : ℤ → ℤ → Result ℤ NumFault
floor_div_of a b = unless_zero b (floor_quotient a b)

-- what a division leaves, or the fault that it is one by zero
abbrev pub modulo_of : ℤ → ℤ → Result ℤ NumFault
modulo_of a b = unless_zero b (floor_remainder a b)
