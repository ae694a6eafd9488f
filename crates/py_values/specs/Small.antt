-- What operations on small integers give.
use Rattle.std.specs.Prelude.{ℤ, Result, Ok, Err, if◌then◌else◌}
use Rattle.py_values.specs.declared.small_int.NumFault.{NumFault}
use Rattle.py_values.specs.declared.small_int.NumFault.TheVariants.{Overflow}
pub use Rattle.py_values.specs.Range.{IsSmall, is_small}

-- the number, where it is a small integer
unfoldable pub checked : ℤ → Result ℤ NumFault
checked z = if is_small z then Ok z else Err Overflow
