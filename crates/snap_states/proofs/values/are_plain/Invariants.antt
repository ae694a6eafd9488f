use Rattle.snap_states.specs.States.{IsPlain}
use Rattle.snap_states.proofs.Looping.{AllTo}
use Rattle.snap_states.proofs.values.are_plain.Given as goal

abbrev pub invariant-loop-v : goal.invariant-loop-v
invariant-loop-v l = AllTo (IsPlain l.known.library.now l.known.snapshot.now) l.values l.v-index
