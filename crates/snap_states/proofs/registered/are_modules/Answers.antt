use Rattle.mpy_base.specs.World.{AModule}
use Rattle.snap_states.specs.States.{IsAt}
use Rattle.snap_states.proofs.Looping.{all_of_them, none_yet, not_so, one_fails_at, one_more_at, tests_no, tests_yes}
use Rattle.snap_states.proofs.registered.are_modules.Goals as goal

pub loop-number-init : goal.loop-number-init
loop-number-init c = none_yet (IsAt c.args.snapshot.now AModule) c.args.numbers.now

pub returns-then-not-is_at : goal.returns-then-not-is_at
returns-then-not-is_at c =
    tests_no (one_fails_at (IsAt c.args.snapshot.now AModule) c.args.numbers.now c.loop-number.number-index _ c.loop-number-test.true (not_so c.is_at.result c.is_at.ensures.1 c.if-not-is_at.true))

pub loop-number-preserved : goal.loop-number-preserved
loop-number-preserved c =
    one_more_at (IsAt c.args.snapshot.now AModule) c.args.numbers.now c.loop-number.number-index _ c.loop-number-test.true (c.is_at.ensures.0 c.if-not-is_at.false) c.loop-number.invariant

pub returns : goal.returns
returns c = tests_yes (all_of_them (IsAt c.args.snapshot.now AModule) c.args.numbers.now c.loop-number.number-index c.loop-number-test.false c.loop-number.invariant)
