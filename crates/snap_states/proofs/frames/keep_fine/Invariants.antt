use Rattle.std.proofs.Common.{take}
use Rattle.std.specs.List.{All}
use Rattle.snap_states.specs.States.{KeepsFine}
use Rattle.snap_states.proofs.frames.keep_fine.Given as goal

abbrev pub invariant-loop-entry : goal.invariant-loop-entry
invariant-loop-entry l = All (KeepsFine l.known.snapshot.now) (take l.entry-index l.entries)
