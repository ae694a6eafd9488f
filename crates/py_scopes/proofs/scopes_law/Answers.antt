use Rattle.py_scopes.proofs.Once as lemmas
use Rattle.py_scopes.proofs.scopes_law.Goals as goal

pub returns : goal.returns
returns c = record { one = lemmas.one_fault; none = lemmas.fault_apart }
