use Rattle.py_tokens.proofs.Operators.{one_longest, one_operator}
use Rattle.py_tokens.proofs.operator.operator_law.Goals as goal

pub returns-clause-one_longest : goal.returns-clause-one_longest
returns-clause-one_longest c = one_longest

pub returns-clause-one_operator : goal.returns-clause-one_operator
returns-clause-one_operator c = one_operator
