use Rattle.std.proofs.Common.{◌<◌, ◌≤◌, length, arith}
use Rattle.frame_calls.proofs.Changes.{some_call, none_dropped, one_more, more_there}
use Rattle.frame_calls.proofs.putting.drop_slots.Goals as goal

pub loop-i-init : goal.loop-i-init
loop-i-init c = none_dropped c.args.frames.now

pub pop-requires : goal.pop-requires
pop-requires c =
    let less : c.loop-i._i < c.args.count = omega arith in
    more_there c.loop-i._i c.args.count c.args.frames.now c.loop-i.frames less c.requires c.loop-i.invariant

pub loop-i-preserved : goal.loop-i-preserved
loop-i-preserved c =
    one_more c.loop-i._i c.args.frames.now c.loop-i.frames c.pop.new.self (some_call (λ d. c.args.count ≤ length d.slots) c.args.frames.now.calls c.requires) c.loop-i.invariant c.pop.ensures.rest
