use Rattle.py_statements.proofs.Starts.{line_starts}
use Rattle.py_statements.proofs.Whole.{one_reading}
use Rattle.py_statements.proofs.line.lines_law.Goals as goal

pub returns-clause-one : goal.returns-clause-one
returns-clause-one c = one_reading

pub returns-clause-begins : goal.returns-clause-begins
returns-clause-begins c = line_starts
