use Rattle.std.proofs.Common.{◌≡◌, drop}
use Rattle.bc_shapes.specs.Shape.{fits}
use Rattle.bc_shapes.proofs.slots.fit.Given as goal

abbrev pub invariant-loop-n : goal.invariant-loop-n
invariant-loop-n l = fits l.wants l.slots ≡ fits (drop l.n l.wants) (drop l.n l.slots)
