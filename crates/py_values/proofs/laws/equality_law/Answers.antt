-- What is shown of two numbers decides.
use Rattle.std.proofs.Common.{refl}
use Rattle.py_values.specs.Equality.{equal}
use Rattle.py_values.proofs.laws.equality_law.Goals as goal

pub returns : goal.returns
unfolding equal
returns c heap a b x y is_x is_y = rw (is_x, is_y) refl
