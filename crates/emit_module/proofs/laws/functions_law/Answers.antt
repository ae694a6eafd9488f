use Rattle.emit_module.proofs.Finding.{defined, begins}
use Rattle.emit_module.proofs.laws.functions_law.Goals as goal

pub returns : goal.returns
returns c = record { own = defined c.children_law.ensures.numbers; inner = begins }
