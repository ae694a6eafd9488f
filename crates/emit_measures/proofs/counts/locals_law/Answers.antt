use Rattle.emit_measures.proofs.Texts.{all_named}
use Rattle.emit_measures.proofs.counts.locals_law.Goals as goal

pub returns : goal.returns
returns c = all_named
