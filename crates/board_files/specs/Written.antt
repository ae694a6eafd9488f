-- What the turns of a plan leave in the files of the tasks.
use Rattle.std.specs.Prelude.{List, length, Option}
use Rattle.mpy_io.specs.Files.{FileOf}
use Rattle.board_tasks.specs.vm_starting.vm_states.Means.{Program}
use Rattle.board_plan.specs.declared.plan.Plan.{Plan}
use Rattle.board_tasks.specs.declared.turning.TaskRun.{TaskRun}
use Rattle.board_files.specs.Files.{AreEmpty}
use Rattle.board_files.specs.Runs.{GoesBy}

-- the files of the tasks were written empty, and then the turns were made
pub record Written (p : Program) (plan : Plan) (old new : List TaskRun) (before behind : Option FileOf) : Type 0 where
  pub empty : Option FileOf
  pub begun : AreEmpty (length plan.tasks) before empty
  pub goes : GoesBy p plan.turns old new empty behind
