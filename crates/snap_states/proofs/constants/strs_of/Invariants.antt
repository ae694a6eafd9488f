use Rattle.snap_states.proofs.Finding.{Gathered}
use Rattle.snap_states.proofs.constants.strs_of.Given as goal

abbrev pub invariant-loop-number : goal.invariant-loop-number
invariant-loop-number l = Gathered l.library l.number l.set
