use Rattle.emit_module.proofs.Joining.{joined}
use Rattle.emit_module.proofs.joined.joined_law.Goals as goal

pub returns : goal.returns
returns c = joined c.children_law.ensures.numbers c.children_law.ensures.children c.tree_law.ensures.lines c.locals_law.ensures
