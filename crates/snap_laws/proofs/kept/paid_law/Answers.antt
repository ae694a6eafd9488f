use Rattle.snap_laws.proofs.Going.{start_paid, step_paid, run_paid}
use Rattle.snap_laws.proofs.kept.paid_law.Goals as goal

pub returns-clause-start : goal.returns-clause-start
returns-clause-start c library name w = start_paid library name w

pub returns-clause-step : goal.returns-clause-step
returns-clause-step c library s paid = step_paid library s paid

pub returns-clause-run : goal.returns-clause-run
returns-clause-run c library name w n = run_paid library name w n
