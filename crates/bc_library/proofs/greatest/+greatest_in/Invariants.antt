use Rattle.bc_library.specs.Greatest.{IsGreatestIn}
use Rattle.bc_library.proofs.Preludes.{HasBelow}
use Rattle.bc_library.proofs.greatest.+greatest_in.Given as goal

abbrev pub decreases-greatest_in : goal.decreases-greatest_in
decreases-greatest_in l = l.levels

abbrev pub invariant-loop-child : goal.invariant-loop-child
invariant-loop-child l = IsGreatestIn (HasBelow l.code l.child-index) l.state l.exc
