-- What the tasks of an image say of the sources that it is made of.
use Rattle.std.specs.Prelude.{◌≡◌, ℕ, List, length, Option, Some, slice_get}
use Rattle.std.specs.List.{concat}
use Rattle.std.specs.Io.KnownBytes.{Appends}
use Rattle.mpy_io.specs.Files.{FileOf}
use Rattle.meant_files.specs.py_meaning.Program.{Program}
use Rattle.board_plan.specs.declared.plan.Plan.{Plan}
use Rattle.board_plan.specs.declared.plan.Task.{Task}
use Rattle.board_command.specs.TaskRuns.{RanAsMeant}

-- For each task there is a program of the sources, whose main unit is the task's module. The task ran as this means: its output is in
-- its file, and its line of the summary that was printed says its end and its room.
pub record MeansTasks (IsProgram : (main : List ℕ) → Program → Type 0) (plan : Plan) (files : FileOf) (before behind : Option (List ℕ)) : Type 0 where
  pub lines : List (List ℕ)
  pub as_many : length lines ≡ length plan.tasks
  pub printed : Appends before behind (concat lines)
  pub has_program : (number : ℕ) (task : Task) → slice_get plan.tasks number ≡ Some task → (program : Program) × IsProgram task.«module» program
  pub means : (number : ℕ) (task : Task) → slice_get plan.tasks number ≡ Some task
      → (program : Program) → IsProgram task.«module» program → RanAsMeant program plan number task files lines
