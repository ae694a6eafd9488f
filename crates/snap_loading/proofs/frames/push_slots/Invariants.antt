use Rattle.std.proofs.Common.{◌≡◌, ◌+◌, length, take, drop, reverse}
use Rattle.vm_frames.specs.Calls.{on_running}
use Rattle.snap_states.specs.Decoded.{stack_of}
use Rattle.snap_loading.specs.Framing.{slots_in}
use Rattle.snap_loading.proofs.Stacking.{with_slots}
use Rattle.snap_loading.proofs.frames.push_slots.Given as goal

abbrev pub invariant-loop-at : goal.invariant-loop-at
invariant-loop-at l = record {
  count : l.left + slots_in (take l.at l.parts) ≡ length l.kinds;
  stack : l.frames ≡ on_running (with_slots (stack_of l.lookup.library.now l.lookup.snapshot.now (drop l.left l.kinds) (reverse (take l.at l.parts)))) l.initial.frames;
}
