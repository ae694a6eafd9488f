use Rattle.image_open.specs.image_grammar.Base.{base_of}
use Rattle.image_freeze.specs.Fronts.{front_of}
use Rattle.image_freeze.proofs.Ended.{twice_ends}
use Rattle.image_freeze.proofs.image.image_or_fault.Goals as goal

pub returns-in-Some-clause-ends : goal.returns-in-Some-clause-ends
returns-in-Some-clause-ends c =
    twice_ends (front_of c.args.version (base_of c.args.below.now)) (base_of c.args.below.now) c.args.modules.now c.in-Some.name.now c.twice.result c.in-Some.ensures.twice c.twice.ensures
