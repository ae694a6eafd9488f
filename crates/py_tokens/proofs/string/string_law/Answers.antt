use Rattle.py_tokens.proofs.Literals.{one_literal, one_fault, apart}
use Rattle.py_tokens.proofs.string.string_law.Goals as goal

pub returns-clause-one_literal : goal.returns-clause-one_literal
returns-clause-one_literal c = one_literal

pub returns-clause-one_fault : goal.returns-clause-one_fault
returns-clause-one_fault c = one_fault

pub returns-clause-apart : goal.returns-clause-apart
returns-clause-apart c = apart
