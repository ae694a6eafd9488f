use Rattle.std.proofs.Common.{◌≡◌, ◌-◌, length}
use Rattle.frame_moves.specs.vm_frames.Calls.{on_running}
use Rattle.frame_values.proofs.Pushing.{pushed_from}
use Rattle.frame_values.proofs.values.put_values.Given as goal

abbrev pub invariant-loop-at : goal.invariant-loop-at
invariant-loop-at l = l.frames ≡ on_running (pushed_from l.values (length l.values - l.at)) l.fn.frames
