use Rattle.std.proofs.Common.{◌≡◌}
use Rattle.vm_frames.specs.Calls.{on_running}
use Rattle.snap_states.specs.Decoded.{iterator_of}
use Rattle.snap_loading.proofs.Stacking.{with_slots}
use Rattle.snap_loading.proofs.frames.push_iterator.Given as goal

abbrev pub invariant-loop-part : goal.invariant-loop-part
invariant-loop-part l = l.frames ≡ on_running (with_slots (iterator_of l.part l.fn.over l.fn.at)) l.initial.frames
