use Rattle.std.proofs.Common.{sym, subst, ◌∙◌}
use Rattle.snap_states.specs.Held.{Held, has_key}
use Rattle.snap_states.specs.States.{key_in_part}
use Rattle.snap_states.proofs.Looping.{tests_no, tests_yes}
use Rattle.snap_states.proofs.Seeing.{Seen}
use Rattle.snap_states.proofs.Walking.{key_here, key_seen, key_there, key_twice, keys_once, no_keys}
use Rattle.snap_states.proofs.keys.are_once.Goals as goal

pub loop-pair-init : goal.loop-pair-init
loop-pair-init c = subst (λ (z : Held). Seen (key_in_part c.args.snapshot.now c.args.pairs.now) 0 (has_key z)) (sym c.new-set.ensures) (no_keys c.args.snapshot.now c.args.pairs.now)

pub returns-then-not-branch : goal.returns-then-not-branch
returns-then-not-branch c =
    let here = key_here c.args.snapshot.now c.args.pairs.now c.loop-pair.pair-index c.pair-item.result c.loop-pair-test.true c.pair-item.is in
    let there = key_there _ (c.requires c.loop-pair.pair-index c.loop-pair-test.true) in
    tests_no (key_twice c.args.snapshot.now c.args.pairs.now c.loop-pair.pair-index c.loop-pair.set c.add_key.new.set there.0 c.loop-pair.invariant there.1 c.in_ok-add_key.field-0 c.if-not-branch.true (c.in_ok-add_key.ensures there.0 (sym here ∙ there.1)) c.loop-pair-test.true)

pub loop-pair-preserved : goal.loop-pair-preserved
loop-pair-preserved c =
    let here = key_here c.args.snapshot.now c.args.pairs.now c.loop-pair.pair-index c.pair-item.result c.loop-pair-test.true c.pair-item.is in
    let there = key_there _ (c.requires c.loop-pair.pair-index c.loop-pair-test.true) in
    key_seen c.args.snapshot.now c.args.pairs.now c.loop-pair.pair-index c.loop-pair.set c.add_key.new.set there.0 c.loop-pair.invariant there.1 c.in_ok-add_key.field-0 c.if-not-branch.false (c.in_ok-add_key.ensures there.0 (sym here ∙ there.1))

pub returns : goal.returns
returns c = tests_yes (keys_once c.args.snapshot.now c.args.pairs.now c.loop-pair.pair-index c.loop-pair.set c.loop-pair-test.false c.loop-pair.invariant)
