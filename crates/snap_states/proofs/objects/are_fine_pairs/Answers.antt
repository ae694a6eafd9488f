use Rattle.snap_states.specs.States.{IsFinePair}
use Rattle.snap_states.proofs.Looping.{all_of_them, none_yet, not_so, one_fails, one_more, tests_no, tests_yes}
use Rattle.snap_states.proofs.objects.are_fine_pairs.Goals as goal

pub loop-pair-init : goal.loop-pair-init
loop-pair-init c = none_yet (IsFinePair c.args.known.now.library.now c.args.known.now.snapshot.now) c.args.pairs.now

pub returns-then-not-is_fine_pair : goal.returns-then-not-is_fine_pair
returns-then-not-is_fine_pair c =
    tests_no (one_fails (IsFinePair c.args.known.now.library.now c.args.known.now.snapshot.now) c.args.pairs.now c.loop-pair.pair-index c.pair-item.result c.loop-pair-test.true c.pair-item.is (not_so c.is_fine_pair.result c.is_fine_pair.ensures.1 c.if-not-is_fine_pair.true))

pub loop-pair-preserved : goal.loop-pair-preserved
loop-pair-preserved c =
    one_more (IsFinePair c.args.known.now.library.now c.args.known.now.snapshot.now) c.args.pairs.now c.loop-pair.pair-index c.pair-item.result c.loop-pair-test.true c.pair-item.is (c.is_fine_pair.ensures.0 c.if-not-is_fine_pair.false) c.loop-pair.invariant

pub returns : goal.returns
returns c = tests_yes (all_of_them (IsFinePair c.args.known.now.library.now c.args.known.now.snapshot.now) c.args.pairs.now c.loop-pair.pair-index c.loop-pair-test.false c.loop-pair.invariant)
