use Rattle.snap_states.specs.States.{IsFinePair}
use Rattle.snap_states.proofs.Looping.{AllTo}
use Rattle.snap_states.proofs.objects.are_fine_pairs.Given as goal

abbrev pub invariant-loop-pair : goal.invariant-loop-pair
invariant-loop-pair l = AllTo (IsFinePair l.known.library.now l.known.snapshot.now) l.pairs l.pair-index
