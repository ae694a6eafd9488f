use Rattle.bc_ops.proofs.Parts.{IsPlacedTo}
use Rattle.bc_ops.proofs.parting.place.Given as goal

abbrev pub invariant-loop-item : goal.invariant-loop-item
invariant-loop-item l = IsPlacedTo l.starts l.initial.items l.items l.item-index
