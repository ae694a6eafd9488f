use Rattle.std.proofs.Common.{sym, ◌∙◌}
use Rattle.emit_measures.proofs.Names.{part_some, part_none}
use Rattle.emit_measures.proofs.imports.first_part.Goals as goal

pub returns-in-Some : goal.returns-in-Some
returns-in-Some c = part_some c.args.name.now c.in-Some.end (sym c.first_dot.ensures.place ∙ c.in-Some.is)

pub returns-in-None : goal.returns-in-None
returns-in-None c = part_none c.args.name.now (sym c.first_dot.ensures.place ∙ c.in-None.is)
