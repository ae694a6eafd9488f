use Rattle.snap_states.specs.States.{HasName}
use Rattle.snap_states.proofs.Looping.{all_of_them, none_yet, not_so, one_fails, one_more, tests_no, tests_yes}
use Rattle.snap_states.proofs.objects.have_names.Goals as goal

pub loop-pair-init : goal.loop-pair-init
loop-pair-init c = none_yet (HasName c.args.known.now.library.now c.args.known.now.snapshot.now) c.args.pairs.now

pub returns-then-not-has_name : goal.returns-then-not-has_name
returns-then-not-has_name c =
    tests_no (one_fails (HasName c.args.known.now.library.now c.args.known.now.snapshot.now) c.args.pairs.now c.loop-pair.pair-index c.pair-item.result c.loop-pair-test.true c.pair-item.is (not_so c.has_name.result c.has_name.ensures.1 c.if-not-has_name.true))

pub loop-pair-preserved : goal.loop-pair-preserved
loop-pair-preserved c =
    one_more (HasName c.args.known.now.library.now c.args.known.now.snapshot.now) c.args.pairs.now c.loop-pair.pair-index c.pair-item.result c.loop-pair-test.true c.pair-item.is (c.has_name.ensures.0 c.if-not-has_name.false) c.loop-pair.invariant

pub returns : goal.returns
returns c = tests_yes (all_of_them (HasName c.args.known.now.library.now c.args.known.now.snapshot.now) c.args.pairs.now c.loop-pair.pair-index c.loop-pair-test.false c.loop-pair.invariant)
