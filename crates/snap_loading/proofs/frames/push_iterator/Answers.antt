use Rattle.std.proofs.Common.{◌≡◌, suc, ◌+◌, ◌<◌, length, ap, ◌∙◌, arith}
use Rattle.vm_frames.specs.declared.slot.Slot.TheVariants as stacked
use Rattle.vm_frames.specs.Calls.{on_running}
use Rattle.snap_states.specs.Decoded.{iterator_of}
use Rattle.snap_loading.proofs.Stacking.{with_slots, no_change, push_more, push_room, iterator_long}
use Rattle.snap_loading.proofs.frames.push_iterator.Goals as goal

pub loop-part-init : goal.loop-part-init
loop-part-init c = no_change c.args.frames.now

pub push-requires : goal.push-requires
push-requires c =
    let k = c.loop-part.part in
    let xs = iterator_of k c.args.over c.args.at in
    let long : length xs ≡ k = iterator_long k c.args.over c.args.at in
    let lt : length xs < c.args.count = omega (arith, long, c.loop-part-test.true) in
    push_room xs c.args.count c.args.frames.now c.loop-part.frames c.loop-part.invariant lt c.requires

pub loop-part-preserved : goal.loop-part-preserved
loop-part-preserved c =
    let k = c.loop-part.part in
    let on : suc k ≡ k + 1 = omega arith in
    push_more (iterator_of k c.args.over c.args.at) (stacked.Iter c.args.over c.args.at k) c.args.frames.now c.loop-part.frames c.push.new.self c.loop-part.invariant c.push.ensures
    ∙ ap (λ j. on_running (with_slots (iterator_of j c.args.over c.args.at)) c.args.frames.now) on

pub returns : goal.returns
returns c =
    let end : c.loop-part.part ≡ c.args.count = omega arith in
    c.loop-part.invariant ∙ ap (λ j. on_running (with_slots (iterator_of j c.args.over c.args.at)) c.args.frames.now) end
