use Rattle.std.proofs.Common.{refl}
use Rattle.py_meaning.proofs.runs.open_law.Goals as goal

pub returns : goal.returns
returns c program names w = refl
