-- Shifts, which multiply by a power of two, or divide by one and round towards minus infinity.
use Rattle.std.specs.Prelude.{ℕ, ◌^◌, min, ℤ, pos, negsuc, ◌*ℤ◌, Result, Ok, Err}
use Rattle.py_values.specs.declared.small_int.NumFault.{NumFault}
use Rattle.py_values.specs.declared.small_int.NumFault.TheVariants.{NegativeShift}
use Rattle.py_values.specs.Small.{checked}
use Rattle.py_values.specs.Division.{floor_quotient}

-- the answers of the shifts by b bits
abbrev pub shl_of : ℤ → ℤ → Result ℤ NumFault
shl_of a (pos n) = checked (a *ℤ pos (2 ^ n))
shl_of a (negsuc n) = Err NegativeShift

-- a shift to the right, or the fault that the count of bits is negative
abbrev pub shr_of : ℤ → ℤ → Result ℤ NumFault
shr_of a (pos n) = checked (floor_quotient a (pos (2 ^ n)))
shr_of a (negsuc n) = Err NegativeShift

-- the bits of a shift that count: past 31 nothing changes
abbrev pub bits_of : ℤ → Result ℕ NumFault
bits_of (pos n) = Ok (min n 31)
bits_of (negsuc n) = Err NegativeShift
