use Rattle.std.proofs.Common.{◌≡◌, None, take, drop}
use Rattle.board_tasks.specs.Opened.{AreOpened, first_missing}
use Rattle.board_tasks.proofs.opening.open_tasks.Given as goal

abbrev pub invariant-loop-task : goal.invariant-loop-task
invariant-loop-task l = (first_missing l.library (drop l.task-index l.tasks) ≡ None) × AreOpened l.library (take l.task-index l.tasks) l.runs.items
