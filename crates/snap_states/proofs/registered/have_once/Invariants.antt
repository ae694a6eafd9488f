use Rattle.snap_states.specs.Knowing.{holds, registered_at}
use Rattle.snap_states.proofs.Seeing.{Seen}
use Rattle.snap_states.proofs.registered.have_once.Given as goal

abbrev pub invariant-loop-number : goal.invariant-loop-number
invariant-loop-number l = Seen (registered_at l.snapshot l.numbers) l.number-index (holds l.names)
