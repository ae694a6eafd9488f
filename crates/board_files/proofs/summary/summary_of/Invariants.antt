use Rattle.board_files.specs.Lines.{TellRuns}
use Rattle.board_files.proofs.summary.summary_of.Given as goal

abbrev pub invariant-loop-task : goal.invariant-loop-task
invariant-loop-task l = TellRuns l.board l.task l.lines.items
