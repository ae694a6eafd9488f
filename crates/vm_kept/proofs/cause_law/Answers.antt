use Rattle.vm_kept.proofs.Endings.{keeps_cause}
use Rattle.vm_kept.proofs.cause_law.Goals as goal

pub returns : goal.returns
returns c p objects s row end means state ready holds = keeps_cause p objects means row end s state ready holds
