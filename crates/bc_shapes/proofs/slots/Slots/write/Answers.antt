use Rattle.bc_shapes.proofs.Loops.{after_is}
use Rattle.bc_shapes.proofs.slots.Slots.write.Goals as goal

pub returns : goal.returns
returns c = after_is c.args.self.found.now c.args.self.gives.values c.loop-give.give-index c.args.self.taken c.args.self.gives.others.now c.loop-give.list.items c.below.result.now _ c.loop-give.invariant c.loop-give-test.false c.below.ensures c.in_ok-extend_from_slice.ensures.items
