use Rattle.std.proofs.Common.{◌≡◌, drop}
use Rattle.bc_shapes.specs.Shape.{same_entries}
use Rattle.bc_shapes.proofs.shape.same_entries.Given as goal

abbrev pub invariant-loop-i : goal.invariant-loop-i
invariant-loop-i l = same_entries l.ds l.es ≡ same_entries (drop l.i l.ds) (drop l.i l.es)
