use Rattle.image_grammar.proofs.BaseNames.{found_none, found_some}
use Rattle.image_grammar.proofs.base.has_name.Goals as goal

pub returns-in-Some : goal.returns-in-Some
returns-in-Some c = found_some c.args.lib.now c.args.name.now _ c.requires c.in-Some.ensures

pub returns-in-None : goal.returns-in-None
returns-in-None c = found_none c.args.lib.now c.args.name.now c.requires c.in-None.ensures
