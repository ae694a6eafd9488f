use Rattle.std.proofs.Common.{◌≡◌, map, take}
use Rattle.vm_frames.specs.Calls.{on_running}
use Rattle.snap_states.specs.Decoded.{local_of}
use Rattle.snap_loading.proofs.Stacking.{with_locals}
use Rattle.snap_loading.proofs.frames.set_locals.Given as goal

abbrev pub invariant-loop-at : goal.invariant-loop-at
invariant-loop-at l = l.frames ≡ on_running (with_locals (map (local_of l.lookup.library.now l.lookup.snapshot.now) (take l.at l.parts)) l.at) l.initial.frames
