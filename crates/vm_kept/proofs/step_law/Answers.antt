use Rattle.vm_kept.proofs.Steps.{stepped}
use Rattle.vm_kept.proofs.step_law.Goals as goal

pub returns : goal.returns
returns c p before behind earlier later paid again w v old new means holds keeps same = stepped p c.known_law.ensures.step before behind earlier later paid again w v old new means holds keeps same
