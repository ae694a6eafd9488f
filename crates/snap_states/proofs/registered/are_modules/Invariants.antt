use Rattle.mpy_base.specs.World.{AModule}
use Rattle.snap_states.specs.States.{IsAt}
use Rattle.snap_states.proofs.Looping.{AllTo}
use Rattle.snap_states.proofs.registered.are_modules.Given as goal

abbrev pub invariant-loop-number : goal.invariant-loop-number
invariant-loop-number l = AllTo (IsAt l.snapshot AModule) l.numbers l.number-index
