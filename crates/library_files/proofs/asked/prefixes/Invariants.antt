use Rattle.library_files.proofs.Fronts.{Found}
use Rattle.library_files.proofs.asked.prefixes.Given as goal

abbrev pub invariant-loop-place : goal.invariant-loop-place
invariant-loop-place l = Found l.name l.fronts.items l.place
