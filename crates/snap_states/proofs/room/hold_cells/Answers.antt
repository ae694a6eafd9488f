use Rattle.snap_states.specs.Parts.{cells_of_part}
use Rattle.snap_states.proofs.Looping.{tests_no, tests_yes}
use Rattle.snap_states.proofs.Rooming.{all_fit, one_fits, one_too_many}
use Rattle.snap_states.proofs.room.hold_cells.Goals as goal

pub returns-in-None : goal.returns-in-None
returns-in-None c =
    tests_no (one_too_many cells_of_part c.args.objects.now c.args.used c.loop-object.left c.loop-object.object-index c.object-item.result c.loop-object-test.true c.object-item.is c.in-None.ensures c.loop-object.invariant)

pub loop-object-preserved : goal.loop-object-preserved
loop-object-preserved c =
    one_fits cells_of_part c.args.objects.now c.args.used c.loop-object.left c.in-Some.rest c.loop-object.object-index c.object-item.result c.loop-object-test.true c.object-item.is c.in-Some.ensures c.loop-object.invariant

pub returns : goal.returns
returns c = tests_yes (all_fit cells_of_part c.args.objects.now c.args.used c.loop-object.left c.loop-object.object-index c.loop-object-test.false c.loop-object.invariant)
