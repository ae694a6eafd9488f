-- The run of a task alone, without ports.
use Rattle.std.specs.Prelude.{◌≡◌, ℕ, List, []}
use Rattle.mpy_base.specs.Val.{PlainWorld}
use Rattle.vm_machine.specs.vm_frames.py_effects.Ends.{Run, new_world}
use Rattle.vm_machine.specs.vm_frames.bc_machine.Library.{Library}
use Rattle.vm_machine.specs.vm_frames.bc_machine.State.{State}
use Rattle.vm_machine.specs.vm_frames.bc_machine.Machine.{run, start}
use Rattle.board_plan.specs.declared.plan.Task.{Task}

-- the machine at the start of the task's module
abbrev pub start_of : Library → Task → State
start_of library task = start library task.«module» (new_world task.room.cells task.room.bytes [])

-- the run of the task's module for these steps
abbrev pub run_of_task : Library → Task → (steps : ℕ) → Run
run_of_task library task steps = run library task.«module» task.room.cells task.room.bytes [] steps

-- a world without ports, in which this was printed. A machine has its own heap and modules there
abbrev pub alone : (printed : List ℕ) → PlainWorld
alone printed = record (new_world 0 0 []) { output = printed }
