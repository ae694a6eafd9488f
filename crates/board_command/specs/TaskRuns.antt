-- What the run of a task says of the program of its module.
use Rattle.std.specs.Prelude.{◌≡◌, ℕ, List, [], Some, slice_get}
use Rattle.meant_files.specs.meant_runs.mpy_io.Files.{FileOf}
use Rattle.meant_files.specs.meant_runs.bc_machine.py_effects.Ends.{Run}
use Rattle.meant_files.specs.meant_runs.py_meaning.Program.{Program}
use Rattle.meant_files.specs.meant_runs.Runs.{MeansRun}
use Rattle.board_files.specs.board_plan.declared.plan.Plan.{Plan}
use Rattle.board_files.specs.board_plan.declared.plan.Task.{Task}
use Rattle.board_files.specs.board_tasks.Schedules.{total}
use Rattle.board_files.specs.Files.{out_name}
use Rattle.board_files.specs.Summaries.{SaysRun}

-- A run, without ports and for the total of the task's own steps, ends as the program means, or is stopped by its steps on the way.
-- The task's file has its output, and the task's line of the summary says how it ended and which room its objects use
pub record RanAsMeant (program : Program) (plan : Plan) (number : ℕ) (task : Task) (files : FileOf) (lines : List (List ℕ)) : Type 0 where
  pub run : Run
  pub means : MeansRun program task.room.cells task.room.bytes [] (total plan.turns number) run
  pub output : files (out_name number) ≡ Some run.world.output
  pub line : List ℕ
  pub told : slice_get lines number ≡ Some line
  pub says : SaysRun number run line
