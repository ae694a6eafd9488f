use Rattle.emit_measures.proofs.Limiting.{within}
use Rattle.emit_measures.proofs.faults.within_law.Goals as goal

pub returns : goal.returns
returns c = within
