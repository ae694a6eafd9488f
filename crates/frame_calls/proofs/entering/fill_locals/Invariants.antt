use Rattle.std.proofs.Common.{◌≡◌, ◌++◌, take, drop}
use Rattle.frame_moves.specs.vm_frames.Calls.{on_running}
use Rattle.frame_calls.proofs.entering.fill_locals.Given as goal

abbrev pub invariant-loop-i : goal.invariant-loop-i
invariant-loop-i l = l.frames ≡ on_running (λ c. record c { locals = take l.i l.values ++ drop l.i c.locals }) l.fn.frames
