use Rattle.image_open.proofs.Below.{other_counts, same_counts}
use Rattle.image_open.proofs.image.are_counts.Goals as goal

pub returns-then-texts-texts_below : goal.returns-then-texts-texts_below
returns-then-texts-texts_below c = same_counts c.args.below.now c.args.texts_below c.count_modules-modules_below.result c.args.texts c.args.modules c.requires c.count_modules-modules_below.ensures c.if-texts-texts_below.true

pub returns-else-texts-texts_below : goal.returns-else-texts-texts_below
returns-else-texts-texts_below c = other_counts c.args.below.now c.args.texts_below c.args.texts c.args.modules c.requires c.if-texts-texts_below.false
