use Rattle.py_source.proofs.Once.{one_accepted, one_fault, not_both}
use Rattle.py_source.proofs.Always.{read}
use Rattle.py_source.proofs.source.accepted_law.Goals as goal

pub returns-clause-one : goal.returns-clause-one
returns-clause-one c = one_accepted

pub returns-clause-one_fault : goal.returns-clause-one_fault
returns-clause-one_fault c = one_fault

pub returns-clause-not_both : goal.returns-clause-not_both
returns-clause-not_both c = not_both

pub returns-clause-always : goal.returns-clause-always
returns-clause-always c = read
