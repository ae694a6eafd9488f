use Rattle.emit_module.proofs.Standing.{stands}
use Rattle.emit_module.proofs.laws.stands_law.Goals as goal

pub returns : goal.returns
returns c = stands c.children_law.ensures.numbers c.children_law.ensures.children c.tree_law.ensures.lines
