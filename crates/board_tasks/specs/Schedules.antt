-- Schedules: the turns of tasks, one behind the other.
use Rattle.std.specs.Prelude.{ℕ, ◌+◌, ◌==◌, List, [], ◌∷◌, map, Option, Some, None, slice_get, slice_set, if◌then◌else◌}
use Rattle.vm_machine.specs.vm_frames.bc_machine.Library.{Library}
use Rattle.vm_machine.specs.vm_frames.bc_machine.State.{State, Running, Halted, Stuck}
use Rattle.vm_machine.specs.vm_frames.bc_machine.Machine.{steps}
use Rattle.board_plan.specs.declared.plan.Task.{Task}
use Rattle.board_plan.specs.declared.plan.Turn.{Turn}
use Rattle.board_tasks.specs.Alone.{start_of}

-- the steps that these turns give to a task
abbrev pub total : List Turn → (task : ℕ) → ℕ
total [] task = 0
total (turn ∷ turns) task = (if turn.task == task then turn.steps else 0) + total turns task

module _ (library : Library) where
  -- the machine goes on from where it stands. One that has ended does nothing
  abbrev pub after_turn : (count : ℕ) → State → State
  after_turn count (Running paid frame frames w) = steps library count (Running paid frame frames w)
  after_turn count (Halted end w) = Halted end w
  after_turn count (Stuck w) = steps library count (Stuck w)

  -- the machines, of which the one of this number has a turn
  abbrev pub with_turn : Turn → List State → Option State → List State
  with_turn turn states None = states
  with_turn turn states (Some state) = slice_set states turn.task (after_turn turn.steps state)

  -- the machines behind the turns of a schedule
  abbrev pub behind_turns : List State → List Turn → List State
  behind_turns states [] = states
  behind_turns states (turn ∷ turns) = behind_turns (with_turn turn states (slice_get states turn.task)) turns

  -- the board's run: each task's machine behind the schedule
  abbrev pub board_run : List Task → List Turn → List State
  board_run tasks schedule = behind_turns (map (start_of library) tasks) schedule
