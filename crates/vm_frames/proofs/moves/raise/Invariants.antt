use Rattle.std.proofs.Common.{length}
use Rattle.vm_frames.specs.Moves.{is_active}
use Rattle.vm_frames.proofs.Passing.{Passed}
use Rattle.vm_frames.proofs.moves.raise.Given as goal

abbrev pub invariant-entries : goal.invariant-entries
invariant-entries l = Passed (λ e. Rattle.std.proofs.Common.not (is_active l.fn.frame.call.at e)) l.fn.frame l.frame

abbrev pub decreases-entries : goal.decreases-entries
decreases-entries l = length l.frame.call.entries
