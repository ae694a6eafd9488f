-- The names are looked up one by one.
use Rattle.std.proofs.Common.{refl}
use Rattle.py_primitives.proofs.laws.names_law.Goals as goal

pub returns : goal.returns
returns c = refl
