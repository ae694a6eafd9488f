use Rattle.std.proofs.Common.{◌-◌, length}
use Rattle.bc_ops.proofs.Parts.{IsPartedTo}
use Rattle.bc_ops.proofs.parting.part.Given as goal

abbrev pub invariant-loop-at : goal.invariant-loop-at
invariant-loop-at l = IsPartedTo l.code l.offsets.items l.items.items l.at

abbrev pub decreases-loop-at : goal.decreases-loop-at
decreases-loop-at l = length l.code - l.at
