use Rattle.snap_states.specs.States.{HasName}
use Rattle.snap_states.proofs.Looping.{AllTo}
use Rattle.snap_states.proofs.objects.have_names.Given as goal

abbrev pub invariant-loop-pair : goal.invariant-loop-pair
invariant-loop-pair l = AllTo (HasName l.known.library.now l.known.snapshot.now) l.pairs l.pair-index
