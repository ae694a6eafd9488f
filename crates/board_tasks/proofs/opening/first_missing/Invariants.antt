use Rattle.std.proofs.Common.{◌≡◌, drop}
use Rattle.board_tasks.specs.Opened.{first_missing}
use Rattle.board_tasks.proofs.opening.first_missing.Given as goal

abbrev pub invariant-loop-task : goal.invariant-loop-task
invariant-loop-task l = first_missing l.library l.tasks ≡ first_missing l.library (drop l.task-index l.tasks)
