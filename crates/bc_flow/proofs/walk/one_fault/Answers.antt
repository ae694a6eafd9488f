use Rattle.bc_flow.proofs.Unique as lemmas
use Rattle.bc_flow.proofs.walk.one_fault.Goals as goal

pub returns : goal.returns
returns c = lemmas.one_fault
