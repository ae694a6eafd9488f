use Rattle.bc_verify.proofs.Once as lemmas
use Rattle.bc_verify.proofs.verified.one_fault.Goals as goal

pub returns : goal.returns
returns c = record { one = lemmas.one_fault; none = lemmas.fault_apart }
