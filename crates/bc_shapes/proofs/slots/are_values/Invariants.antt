use Rattle.std.proofs.Common.{◌≡◌, ◌&&◌, drop}
use Rattle.bc_shapes.specs.Shape.{are_values}
use Rattle.bc_shapes.proofs.slots.are_values.Given as goal

abbrev pub invariant-loop-kind : goal.invariant-loop-kind
invariant-loop-kind l = are_values l.slots ≡ (l.fine && are_values (drop l.kind-index l.slots))
