use Rattle.image_open.specs.bc_library.Shelf.{names}
use Rattle.image_freeze.proofs.Twice.{Walked, source_names}
use Rattle.image_freeze.proofs.names.first_twice.Given as goal

abbrev pub invariant-loop-place : goal.invariant-loop-place
invariant-loop-place l = Walked (names l.below) (source_names l.modules) l.place
