use Rattle.std.proofs.Common.{◌+◌, ◌≤◌, length, arith}
use Rattle.image_open.specs.bc_library.Shelf.{names}
use Rattle.image_open.specs.image_grammar.Base.{base_of}
use Rattle.image_freeze.specs.Fronts.{front_of}
use Rattle.image_freeze.proofs.Ended.{many_modules}
use Rattle.image_freeze.proofs.Fronts.{names_count}
use Rattle.image_freeze.proofs.image.image_of_few.Goals as goal

pub returns-then-modules-count_modules-clause-ends : goal.returns-then-modules-count_modules-clause-ends
returns-then-modules-count_modules-clause-ends c =
    let count = names_count c.args.below.now c.count_modules.result c.count_modules.ensures in
    many_modules (front_of c.args.version (base_of c.args.below.now)) (base_of c.args.below.now) c.args.modules.now c.requires.differ (omega (arith, count, c.if-modules-count_modules.true))

pub image-requires-clause-few : goal.image-requires-clause-few
image-requires-clause-few c =
    let count = names_count c.args.below.now c.count_modules.result c.count_modules.ensures in
    omega (arith, count, c.count_modules.ensures, c.library_law.ensures.few, c.if-modules-count_modules.false)
