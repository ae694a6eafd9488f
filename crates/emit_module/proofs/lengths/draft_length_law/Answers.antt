use Rattle.emit_module.proofs.Measuring.{draft_length}
use Rattle.emit_module.proofs.lengths.draft_length_law.Goals as goal

pub returns : goal.returns
returns c = draft_length c.children_law.ensures.numbers c.children_law.ensures.children c.lengths_law.ensures
