use Rattle.std.proofs.Common.{take}
use Rattle.std.specs.List.{All}
use Rattle.snap_states.specs.States.{IsFineLocal}
use Rattle.snap_states.proofs.frames.are_fine_locals.Given as goal

abbrev pub invariant-loop-part : goal.invariant-loop-part
invariant-loop-part l = All (IsFineLocal l.known.library.now l.known.snapshot.now) (take l.part-index l.parts)
