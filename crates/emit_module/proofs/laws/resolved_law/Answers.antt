use Rattle.emit_module.proofs.Moduling.{resolved_same}
use Rattle.emit_module.proofs.laws.resolved_law.Goals as goal

pub returns : goal.returns
returns c = resolved_same
