use Rattle.vm_states.proofs.Bounds.{within}
use Rattle.vm_states.proofs.standing.locals_law.Goals as goal

pub returns : goal.returns
returns c = within
