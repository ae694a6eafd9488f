use Rattle.std.proofs.Common.{◌+◌, arith, drop}
use Rattle.std.specs.List.{flat_map}
use Rattle.snap_saving.specs.Shown.{shown_slots}
use Rattle.snap_saving.specs.Steps.{found, slot_bytes}
use Rattle.snap_saving.proofs.Adding.{more_long}
use Rattle.snap_saving.proofs.Slots.{added, all_added}
use Rattle.snap_saving.proofs.frames.put_slots.Goals as goal

pub above-requires : goal.above-requires
above-requires c = omega (arith, c.loop-i-test.true)

pub slot_at-requires : goal.slot_at-requires
slot_at-requires c = omega (arith, c.loop-i-test.true)

pub returns-then-is_long-clause-fault : goal.returns-then-is_long-clause-fault
returns-then-is_long-clause-fault c =
    let f = slot_bytes c.args.library.now (found c.args.places.now) in
    let xs = c.args.slots.now in
    let next = added xs c.loop-i.i c.slot_at.result c.slot_at.ensures f c.loop-i.out.items c.put_shown.new.out.items _ c.above.result c.above.ensures c.in_ok-put_shown.ensures c.loop-i.invariant in
    more_long c.put_shown.new.out.items (flat_map f (shown_slots (drop (c.loop-i.i + 1) xs))) _ next c.if-is_long.ensures.yes

pub loop-i-preserved : goal.loop-i-preserved
loop-i-preserved c =
    let xs = c.args.slots.now in
    added xs c.loop-i.i c.slot_at.result c.slot_at.ensures (slot_bytes c.args.library.now (found c.args.places.now)) c.loop-i.out.items c.put_shown.new.out.items _ c.above.result c.above.ensures c.in_ok-put_shown.ensures c.loop-i.invariant

pub returns-clause-ok : goal.returns-clause-ok
returns-clause-ok c = all_added c.args.slots.now c.loop-i.i (omega (arith, c.loop-i-test.false)) (slot_bytes c.args.library.now (found c.args.places.now)) c.loop-i.out.items _ c.loop-i.invariant
