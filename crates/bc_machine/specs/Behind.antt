-- Runs in a world in which something was printed before.
use Rattle.std.specs.Prelude.{ℕ, List, ◌++◌}
use Rattle.mpy_tree.specs.mpy_base.Val.{PlainWorld}
use Rattle.py_effects.specs.Ends.{Run}
use Rattle.bc_machine.specs.State.{State, Running, Halted, Stuck}

-- with this text in front of what was printed
abbrev pub behind : List ℕ → PlainWorld → PlainWorld
behind front w = record w { output = front ++ w.output }

-- a state with this text in front of what was printed
abbrev pub state_behind : List ℕ → State → State
state_behind front (Running paid frame frames w) = Running paid frame frames (behind front w)
state_behind front (Halted end w) = Halted end (behind front w)
state_behind front (Stuck w) = Stuck (behind front w)

-- a run with this text in front of what was printed
abbrev pub run_behind : List ℕ → Run → Run
run_behind front run = record { end = run.end; world = behind front run.world }
