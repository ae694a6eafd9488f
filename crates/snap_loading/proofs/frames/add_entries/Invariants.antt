use Rattle.std.proofs.Common.{◌≡◌, map, take, reverse}
use Rattle.vm_frames.specs.Calls.{on_running}
use Rattle.snap_states.specs.Decoded.{handler_of}
use Rattle.snap_loading.proofs.Stacking.{with_entries}
use Rattle.snap_loading.proofs.frames.add_entries.Given as goal

abbrev pub invariant-loop-at : goal.invariant-loop-at
invariant-loop-at l = l.frames ≡ on_running (with_entries (map (handler_of l.lookup.library.now l.lookup.snapshot.now) (reverse (take l.at l.parts)))) l.initial.frames
