use Rattle.py_tokens.proofs.Readings.{one_list, one_fault, apart}
use Rattle.py_tokens.proofs.Always.{always}
use Rattle.py_tokens.proofs.Formed.{tokens_ended}
use Rattle.py_tokens.proofs.Fewer.{sources_formed}
use Rattle.py_tokens.proofs.source.tokens_law.Goals as goal

pub returns-clause-one_list : goal.returns-clause-one_list
returns-clause-one_list c = one_list

pub returns-clause-one_fault : goal.returns-clause-one_fault
returns-clause-one_fault c = one_fault

pub returns-clause-apart : goal.returns-clause-apart
returns-clause-apart c = apart

pub returns-clause-formed : goal.returns-clause-formed
returns-clause-formed c = sources_formed

pub returns-clause-ends : goal.returns-clause-ends
returns-clause-ends c = tokens_ended

pub returns-clause-always : goal.returns-clause-always
returns-clause-always c = always
