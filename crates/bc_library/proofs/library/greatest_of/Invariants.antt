use Rattle.bc_library.specs.Greatest.{IsGreatestIn}
use Rattle.bc_library.proofs.Preludes.{OneBelow}
use Rattle.bc_library.proofs.library.greatest_of.Given as goal

abbrev pub invariant-loop-loaded : goal.invariant-loop-loaded
invariant-loop-loaded l = IsGreatestIn (OneBelow l.modules l.loaded-index) l.state l.exc
