-- Powers.
use Rattle.std.specs.Prelude.{ℕ, zero, suc, ℤ, pos, negsuc, ◌*ℤ◌, Result, Err}
use Rattle.py_values.specs.declared.small_int.NumFault.{NumFault}
use Rattle.py_values.specs.declared.small_int.NumFault.TheVariants.{NegativePower}
use Rattle.py_values.specs.Small.{checked}

-- the product of n factors a
unfoldable pub power : ℤ → ℕ → ℤ
power a zero = pos 1
power a (suc n) = a *ℤ power a n

-- the answer of a power, whose exponent is not to be negative
abbrev pub power_of : ℤ → ℤ → Result ℤ NumFault
power_of a (pos n) = checked (power a n)
power_of a (negsuc n) = Err NegativePower
