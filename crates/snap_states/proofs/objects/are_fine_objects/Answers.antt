use Rattle.snap_states.proofs.Filling.{all_objects, next_object, no_object, other_object}
use Rattle.snap_states.proofs.Looping.{not_so, tests_no, tests_yes}
use Rattle.snap_states.proofs.objects.are_fine_objects.Goals as goal

pub loop-number-init : goal.loop-number-init
loop-number-init c = no_object c.args.known.now.library.now c.args.known.now.snapshot.now

pub returns-then-not-branch : goal.returns-then-not-branch
returns-then-not-branch c =
    tests_no (other_object c.args.known.now.library.now c.args.known.now.snapshot.now c.as_slice-objects.result.now c.as_slice-objects.ensures c.loop-number.number c.index-objects-number.result c.loop-number-test.true c.index-objects-number.is
    (not_so c.in_ok-is_fine_object.field-0 c.in_ok-is_fine_object.ensures.1 c.if-not-branch.true))

pub loop-number-preserved : goal.loop-number-preserved
loop-number-preserved c =
    next_object c.args.known.now.library.now c.args.known.now.snapshot.now c.as_slice-objects.result.now c.as_slice-objects.ensures c.loop-number.number c.index-objects-number.result c.loop-number-test.true c.index-objects-number.is
    (c.in_ok-is_fine_object.ensures.0 c.if-not-branch.false) c.loop-number.invariant

pub returns : goal.returns
returns c = tests_yes (all_objects c.args.known.now.library.now c.args.known.now.snapshot.now c.as_slice-objects.result.now c.as_slice-objects.ensures c.loop-number.number c.loop-number-test.false c.loop-number.invariant)
