use Rattle.std.proofs.Common.{length}
use Rattle.vm_frames.specs.Moves.{is_run}
use Rattle.vm_frames.proofs.Passing.{Passed}
use Rattle.vm_frames.proofs.moves.leave.Given as goal

abbrev pub invariant-entries : goal.invariant-entries
invariant-entries l = Passed (is_run l.fn.frame.call.at) l.fn.frame l.frame

abbrev pub decreases-entries : goal.decreases-entries
decreases-entries l = length l.frame.call.entries
