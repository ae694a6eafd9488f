use Rattle.std.proofs.Common.{sym, ap, subst, ◌∙◌}
use Rattle.std.specs.Option.{option_copied}
use Rattle.snap_states.specs.Knowing.{holds, registered_at}
use Rattle.snap_states.proofs.Looping.{tests_no, tests_yes}
use Rattle.snap_states.proofs.Seeing.{Seen}
use Rattle.snap_states.proofs.Walking.{name_here, name_seen, name_twice, names_once, no_names}
use Rattle.snap_states.proofs.registered.have_once.Goals as goal

pub loop-number-init : goal.loop-number-init
loop-number-init c = subst (λ z. Seen (registered_at c.args.snapshot.now c.args.numbers.now) 0 (holds z)) (sym c.new-names.ensures) (no_names c.args.snapshot.now c.args.numbers.now)

pub returns-then-not-branch : goal.returns-then-not-branch
returns-then-not-branch c =
    let here = name_here c.args.snapshot.now c.args.numbers.now c.loop-number.number-index _ c.loop-number-test.true in
    tests_no (name_twice c.args.snapshot.now c.args.numbers.now c.loop-number.number-index c.loop-number.names c.in-Some.name.now c.loop-number.invariant (here ∙ (sym c.name_at.ensures ∙ ap option_copied c.in-Some.is)) c.in_ok-insert.field-0 c.if-not-branch.true c.in_ok-insert.ensures.tells)

pub loop-number-preserved : goal.loop-number-preserved
loop-number-preserved c =
    let here = name_here c.args.snapshot.now c.args.numbers.now c.loop-number.number-index _ c.loop-number-test.true in
    name_seen c.args.snapshot.now c.args.numbers.now c.loop-number.number-index c.loop-number.names c.insert.new.self c.in-Some.name.now c.loop-number.invariant (here ∙ (sym c.name_at.ensures ∙ ap option_copied c.in-Some.is)) c.in_ok-insert.field-0 c.if-not-branch.false c.in_ok-insert.ensures.tells c.in_ok-insert.ensures.texts

pub returns : goal.returns
returns c = tests_yes (names_once c.args.snapshot.now c.args.numbers.now c.loop-number.number-index c.loop-number.names c.loop-number-test.false c.loop-number.invariant)
