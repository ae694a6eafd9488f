use Rattle.frame_values.proofs.Calls.{dropped_one}
use Rattle.frame_values.proofs.slots.drop_slots.Goals as goal

pub loop-preserved : goal.loop-preserved
loop-preserved c = dropped_one c.loop.counter c.args.frames.now c.loop.frames c.pop.new.self c.loop.invariant c.pop.ensures.rest
