use Rattle.std.proofs.Common.{arith}
use Rattle.snap_saving.proofs.Slots.{counted, all_counted}
use Rattle.snap_saving.proofs.frames.count_slots.Goals as goal

pub above-requires : goal.above-requires
above-requires c = omega (arith, c.loop-i-test.true)

pub slot_at-requires : goal.slot_at-requires
slot_at-requires c = omega (arith, c.loop-i-test.true)

pub loop-i-preserved : goal.loop-i-preserved
loop-i-preserved c =
    let xs = c.args.slots.now in
    record {
      few = omega (arith, c.loop-i.invariant.few, c.count_shown-count.ensures.few);
      counted = counted xs c.loop-i.i c.slot_at.result c.slot_at.ensures c.loop-i.count c.count_shown-count.result _ c.above.result c.above.ensures c.count_shown-count.ensures.is c.loop-i.invariant.counted;
    }

pub returns : goal.returns
returns c = all_counted c.args.slots.now c.loop-i.i (omega (arith, c.loop-i-test.false)) c.loop-i.count _ c.loop-i.invariant.counted
