use Rattle.vm_kept.proofs.Methods.{has_methods}
use Rattle.vm_kept.proofs.methods_law.Goals as goal

pub returns : goal.returns
returns c p objects s state holds = has_methods p objects s state holds
