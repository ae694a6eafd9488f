-- The numbers of objects.
use Rattle.std.specs.Prelude.{ℕ, Option, Some, None}
use Rattle.py_primitives.specs.mpy_base.Val.{Val, At}

-- the number of the object that a value leads to
abbrev pub number_in : Val → Option ℕ
number_in (At n) = Some n
number_in _ = None
