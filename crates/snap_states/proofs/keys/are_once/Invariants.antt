use Rattle.snap_states.specs.Held.{has_key}
use Rattle.snap_states.specs.States.{key_in_part}
use Rattle.snap_states.proofs.Seeing.{Seen}
use Rattle.snap_states.proofs.keys.are_once.Given as goal

abbrev pub invariant-loop-pair : goal.invariant-loop-pair
invariant-loop-pair l = Seen (key_in_part l.snapshot l.pairs) l.pair-index (has_key l.set)
