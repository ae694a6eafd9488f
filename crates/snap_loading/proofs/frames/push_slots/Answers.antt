use Rattle.std.proofs.Common.{◌≡◌, suc, ◌+◌, ◌-◌, ◌++◌, length, take, drop, reverse, sym, ap, ◌∙◌, arith}
use Rattle.vm_frames.specs.Calls.{on_running}
use Rattle.snap_states.specs.Decoded.{slots_of, stack_of}
use Rattle.snap_loading.specs.Framing.{FitsSlot, count_of, slots_in}
use Rattle.snap_loading.proofs.Stacking.{with_slots, no_change, more_slots, slots_room, take_none, take_every, back_next, all_get, count_next, count_within, part_long, parts_long, count_back, stack_next}
use Rattle.snap_loading.proofs.frames.push_slots.Goals as goal

pub loop-at-init : goal.loop-at-init
loop-at-init c =
    let shelf = c.args.lookup.now.library.now in
    let s = c.args.lookup.now.snapshot.now in
    let parts = c.args.parts.now in
    let kinds = c.args.kinds.now in
    let left = length kinds in
    let none : slots_in (take 0 parts) ≡ 0 = ap slots_in (take_none parts) in record {
      count = omega (arith, none);
      stack = no_change c.args.frames.now ∙ ap (λ ps. on_running (with_slots (stack_of shelf s (drop left kinds) (reverse ps))) c.args.frames.now) (sym (take_none parts));
    }

pub overflow_sub-left : goal.overflow_sub-left
overflow_sub-left c =
    let parts = c.args.parts.now in
    let k = c.loop-at.at in
    let next = count_within parts k c.part_at-part.result.now c.part_at-part.ensures in
    omega (arith, next, c.slot_count-left.ensures, c.loop-at.invariant.count, c.requires.among)

pub push_part-requires-clause-fits : goal.push_part-requires-clause-fits
push_part-requires-clause-fits c = all_get FitsSlot c.args.parts.now c.loop-at.at c.part_at-part.result.now c.requires.fit c.part_at-part.ensures

pub push_part-requires-clause-room : goal.push_part-requires-clause-room
push_part-requires-clause-room c =
    let shelf = c.args.lookup.now.library.now in
    let s = c.args.lookup.now.snapshot.now in
    let parts = c.args.parts.now in
    let kinds = c.args.kinds.now in
    let k = c.loop-at.at in
    let part = c.part_at-part.result.now in
    let before = stack_of shelf s (drop c.loop-at.left kinds) (reverse (take k parts)) in
    let own = part_long shelf s c.kind_in-kind.result part in
    let long : length before ≡ slots_in (take k parts) = parts_long shelf s (drop c.loop-at.left kinds) (reverse (take k parts)) ∙ count_back (take k parts) in
    let next = count_within parts k part c.part_at-part.ensures in
    slots_room before (length (slots_of shelf s c.kind_in-kind.result part)) (slots_in parts) c.args.frames.now c.loop-at.frames c.loop-at.invariant.stack (omega (arith, own, long, next)) c.requires.room

pub loop-at-preserved : goal.loop-at-preserved
loop-at-preserved c =
    let shelf = c.args.lookup.now.library.now in
    let s = c.args.lookup.now.snapshot.now in
    let parts = c.args.parts.now in
    let kinds = c.args.kinds.now in
    let old = c.args.frames.now in
    let k = c.loop-at.at in
    let part = c.part_at-part.result.now in
    let before = c.loop-at.left in
    let now = c.loop-at.left - c.slot_count-left.result in
    let next = count_within parts k part c.part_at-part.ensures in
    let own : c.slot_count-left.result ≡ count_of part = c.slot_count-left.ensures in
    let on : suc k ≡ k + 1 = omega arith in
    let less : now + count_of part ≡ before = omega (arith, next, own, c.loop-at.invariant.count, c.requires.among) in
    let step = stack_next shelf s kinds before now part (reverse (take k parts)) less in
    let count : slots_in (take (suc k) parts) ≡ slots_in (take k parts) + count_of part = count_next parts k part c.part_at-part.ensures in
    let count_on : slots_in (take (k + 1) parts) ≡ slots_in (take (suc k) parts) = ap (λ j. slots_in (take j parts)) (sym on) in record {
      count = omega (arith, count, count_on, less, c.loop-at.invariant.count);
      stack =
          more_slots (stack_of shelf s (drop before kinds) (reverse (take k parts))) (slots_of shelf s c.kind_in-kind.result part) old c.loop-at.frames c.push_part.new.frames c.loop-at.invariant.stack c.push_part.ensures
          ∙ (ap (λ z. on_running (with_slots (slots_of shelf s z part ++ stack_of shelf s (drop before kinds) (reverse (take k parts)))) old) c.kind_in-kind.ensures
          ∙ (ap (λ zs. on_running (with_slots zs) old) (sym step)
          ∙ (ap (λ ps. on_running (with_slots (stack_of shelf s (drop now kinds) ps)) old) (sym (back_next parts k part c.part_at-part.ensures))
          ∙ ap (λ j. on_running (with_slots (stack_of shelf s (drop now kinds) (reverse (take j parts)))) old) on)));
    }

pub returns : goal.returns
returns c taken e =
    let shelf = c.args.lookup.now.library.now in
    let s = c.args.lookup.now.snapshot.now in
    let parts = c.args.parts.now in
    let kinds = c.args.kinds.now in
    let end : c.loop-at.at ≡ length parts = omega arith in
    let all : take c.loop-at.at parts ≡ parts = ap (λ j. take j parts) end ∙ take_every parts in
    let count : slots_in (take c.loop-at.at parts) ≡ slots_in parts = ap slots_in all in
    let same : c.loop-at.left ≡ taken = omega (arith, count, c.loop-at.invariant.count, e) in
    c.loop-at.invariant.stack
    ∙ (ap (λ n. on_running (with_slots (stack_of shelf s (drop n kinds) (reverse (take c.loop-at.at parts)))) c.args.frames.now) same
    ∙ ap (λ ps. on_running (with_slots (stack_of shelf s (drop taken kinds) (reverse ps))) c.args.frames.now) all)
