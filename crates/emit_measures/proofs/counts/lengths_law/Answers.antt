use Rattle.emit_measures.proofs.Texts.{wide_is}
use Rattle.emit_measures.proofs.counts.lengths_law.Goals as goal

pub returns : goal.returns
returns c = wide_is
