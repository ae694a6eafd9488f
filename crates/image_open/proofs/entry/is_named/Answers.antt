use Rattle.image_open.proofs.Named.{named_below, named_here}
use Rattle.image_open.proofs.entry.is_named.Goals as goal

pub returns-then-has_name : goal.returns-then-has_name
returns-then-has_name c = named_below c.args.below.now c.args.entries.now c.args.name.now (c.has_name.ensures.0 c.if-has_name.true)

pub returns : goal.returns
returns c = named_here c.args.below.now c.args.entries.now c.args.name.now c.has_name.result c.is_among.result c.has_name.ensures.1 c.if-has_name.false c.is_among.ensures
