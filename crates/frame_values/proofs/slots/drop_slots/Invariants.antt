use Rattle.std.proofs.Common.{◌≡◌}
use Rattle.frame_moves.specs.vm_frames.Calls.{on_running}
use Rattle.frame_values.proofs.Calls.{dropped}
use Rattle.frame_values.proofs.slots.drop_slots.Given as goal

abbrev pub invariant-loop : goal.invariant-loop
invariant-loop l = l.frames ≡ on_running (dropped l.counter) l.initial.frames
