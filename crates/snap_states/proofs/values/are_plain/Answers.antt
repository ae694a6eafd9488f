use Rattle.snap_states.specs.States.{IsPlain}
use Rattle.snap_states.proofs.Looping.{all_of_them, none_yet, not_so, one_fails, one_more, tests_no, tests_yes}
use Rattle.snap_states.proofs.values.are_plain.Goals as goal

pub loop-v-init : goal.loop-v-init
loop-v-init c = none_yet (IsPlain c.args.known.now.library.now c.args.known.now.snapshot.now) c.args.values.now

pub returns-then-not-is_plain : goal.returns-then-not-is_plain
returns-then-not-is_plain c =
    tests_no (one_fails (IsPlain c.args.known.now.library.now c.args.known.now.snapshot.now) c.args.values.now c.loop-v.v-index c.v-item.result c.loop-v-test.true c.v-item.is (not_so c.is_plain.result c.is_plain.ensures.1 c.if-not-is_plain.true))

pub loop-v-preserved : goal.loop-v-preserved
loop-v-preserved c =
    one_more (IsPlain c.args.known.now.library.now c.args.known.now.snapshot.now) c.args.values.now c.loop-v.v-index c.v-item.result c.loop-v-test.true c.v-item.is (c.is_plain.ensures.0 c.if-not-is_plain.false) c.loop-v.invariant

pub returns : goal.returns
returns c = tests_yes (all_of_them (IsPlain c.args.known.now.library.now c.args.known.now.snapshot.now) c.args.values.now c.loop-v.v-index c.loop-v-test.false c.loop-v.invariant)
