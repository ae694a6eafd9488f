use Rattle.std.proofs.lemmas.List.{drop_all}
use Rattle.py_scopes.proofs.Judging.{begun_at, at_event, lent, none_of, found, passed, faultless}
use Rattle.py_scopes.proofs.judge.first_fault.Goals as goal

pub loop-event-init : goal.loop-event-init
loop-event-init c = begun_at c.asked_names-tells.result c.args.events.now c.new-around.result.items c.new-seen.result.items c.new-around.ensures.items c.new-seen.ensures.items

pub returns-in-Some-clause-some : goal.returns-in-Some-clause-some
returns-in-Some-clause-some c =
    found c.asked_names-tells.result c.args.events.now _ c.event-item.result c.loop-event.around.items c.args.bound.now c.args.declared.now c.loop-event.seen.items c.in_ok-fault.field-0
    (at_event c.asked_names-tells.result c.args.events.now c.loop-event.event-index c.event-item.result c.loop-event.around.items c.loop-event.seen.items c.loop-event-test.true c.event-item.is c.loop-event.invariant)
    c.requires.bound_are c.requires.declared_are c.asked_names-tells.ensures
    (lent c.args.bound.now c.args.declared.now c.loop-event.seen.items c.deref.result.now c.loop-event.around.items c.deref-in-loop-event.result.now c.event-item.result c.in_ok-fault.field-0
    c.deref.ensures.value c.deref-in-loop-event.ensures.value c.in_ok-fault.ensures)
    c.in-Some.fault c.in-Some.is

pub loop-event-preserved : goal.loop-event-preserved
loop-event-preserved c =
    passed c.asked_names-tells.result c.args.events.now _ c.event-item.result c.loop-event.around.items c.args.bound.now c.args.declared.now c.loop-event.seen.items c.in_ok-fault.field-0
    (at_event c.asked_names-tells.result c.args.events.now c.loop-event.event-index c.event-item.result c.loop-event.around.items c.loop-event.seen.items c.loop-event-test.true c.event-item.is c.loop-event.invariant)
    c.requires.bound_are c.requires.declared_are c.asked_names-tells.ensures
    (lent c.args.bound.now c.args.declared.now c.loop-event.seen.items c.deref.result.now c.loop-event.around.items c.deref-in-loop-event.result.now c.event-item.result c.in_ok-fault.field-0
    c.deref.ensures.value c.deref-in-loop-event.ensures.value c.in_ok-fault.ensures)
    c.step.new.around.items c.step.new.sets.items (none_of c.in_ok-fault.field-0 c.in_default.not-Some)
    c.in_ok-step.ensures.around c.in_ok-step.ensures.count c.in_ok-step.ensures.inside c.in_ok-step.ensures.names

pub returns-clause-none : goal.returns-clause-none
returns-clause-none c =
    faultless c.asked_names-tells.result c.args.events.now _ c.loop-event.around.items c.loop-event.seen.items (drop_all c.loop-event.event-index c.args.events.now c.loop-event-test.false) c.loop-event.invariant
