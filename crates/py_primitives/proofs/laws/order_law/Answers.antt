-- What is shown of two numbers decides.
use Rattle.std.proofs.Common.{refl}
use Rattle.py_primitives.specs.Order.{order}
use Rattle.py_primitives.proofs.laws.order_law.Goals as goal

pub returns : goal.returns
unfolding order
returns c heap a b x y is_x is_y = rw (is_x, is_y) refl
