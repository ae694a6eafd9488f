use Rattle.vm_states.proofs.Onwards as onwards
use Rattle.vm_states.proofs.ready.keeps_law.Goals as goal

pub returns-clause-went : goal.returns-clause-went
returns-clause-went c p = onwards.went p c.progress_law.ensures.step

pub returns-clause-goes_on : goal.returns-clause-goes_on
returns-clause-goes_on c p = onwards.goes_ready p c.progress_law.ensures.step c.placed_law.ensures.goes
