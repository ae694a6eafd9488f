use Rattle.std.proofs.Common.{◌≡◌, drop}
use Rattle.frame_moves.specs.vm_frames.Calls.{on_running}
use Rattle.frame_calls.proofs.putting.drop_slots.Given as goal

abbrev pub invariant-loop-i : goal.invariant-loop-i
invariant-loop-i l = l.frames ≡ on_running (λ c. record c { slots = drop l._i c.slots }) l.fn.frames
