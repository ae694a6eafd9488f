use Rattle.std.proofs.Common.{◌≡◌, ◌+◌, List, [], ◌∷◌, ◌++◌, take, sym, subst}
use Rattle.board_tasks.specs.declared.turning.TaskRun.{TaskRun}
use Rattle.board_tasks.specs.Opened.{AreOpened}
use Rattle.board_tasks.proofs.Starting.{more_opened}
use Rattle.board_tasks.proofs.opening.open_tasks.Goals as goal

pub loop-task-preserved : goal.loop-task-preserved
loop-task-preserved c =
    let pushed : c.push.new.self.items ≡ c.loop-task.runs.items ++ c.in_ok-open_task.field-0 ∷ [] = c.in_ok-push.ensures.items in
    let more = more_opened c.args.library.now c.args.tasks.now c.loop-task.runs.items c.loop-task.task-index c.task-item.result c.in_ok-open_task.field-0 c.loop-task-test.true c.task-item.is
    c.loop-task.invariant.0 c.loop-task.invariant.1 c.in_ok-open_task.ensures in
    (more.0, subst (λ (runs : List TaskRun). AreOpened c.args.library.now (take (c.loop-task.task-index + 1) c.args.tasks.now) runs) (sym pushed) more.1)
