use Rattle.image_freeze.proofs.Twice.{taken_below, taken_here}
use Rattle.image_freeze.proofs.names.is_taken.Goals as goal

pub returns-then-has_name : goal.returns-then-has_name
returns-then-has_name c = taken_below c.args.below.now c.args.modules.now c.args.name.now (c.has_name.ensures.0 c.if-has_name.true)

pub returns : goal.returns
returns c = taken_here c.args.below.now c.args.modules.now c.args.name.now c.has_name.result c.is_named.result c.has_name.ensures.1 c.if-has_name.false c.is_named.ensures
