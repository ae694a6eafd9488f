-- A making is tried by its test.
use Rattle.py_primitives.proofs.Makings.{made, refused}
use Rattle.py_primitives.proofs.laws.making_law.Goals as goal

pub returns : goal.returns
returns c = record { made = made; refused = refused }
