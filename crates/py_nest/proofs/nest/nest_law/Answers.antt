use Rattle.py_nest.proofs.Shortest.{one_line}
use Rattle.py_nest.proofs.nest.nest_law.Goals as goal

pub returns : goal.returns
returns c = one_line
