use Rattle.py_scopes.proofs.Walks.{step_on}
use Rattle.py_scopes.proofs.names.table.Goals as goal

pub loop-event-preserved : goal.loop-event-preserved
loop-event-preserved c =
    step_on c.args.tells c.args.events.now c.loop-event.event-index c.event-item.result c.loop-event.around.items c.step.new.around.items c.loop-event.sets.items c.step.new.sets.items
    c.loop-event-test.true c.event-item.is c.loop-event.invariant c.in_ok-step.ensures.around c.in_ok-step.ensures.count c.in_ok-step.ensures.inside c.in_ok-step.ensures.names
