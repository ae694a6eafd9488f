use Rattle.vm_kept.proofs.Raises.{raised}
use Rattle.vm_kept.proofs.raises_law.Goals as goal

pub returns : goal.returns
returns c p place between behind earlier later again w v old new stop means holds keeps same = raised p means place between behind earlier later again w v old new stop holds keeps same
