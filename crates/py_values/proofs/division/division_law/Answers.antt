use Rattle.py_values.proofs.Quotients.{only}
use Rattle.py_values.proofs.division.division_law.Goals as goal

pub returns-clause-only : goal.returns-clause-only
returns-clause-only c = only
