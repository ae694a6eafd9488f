use Rattle.snap_laws.proofs.Going.{start_waits, step_waits, run_waits}
use Rattle.snap_laws.proofs.kept.waits_law.Goals as goal

pub returns-clause-start : goal.returns-clause-start
returns-clause-start c library name w = start_waits library name w

pub returns-clause-step : goal.returns-clause-step
returns-clause-step c library s waits = step_waits library s waits

pub returns-clause-run : goal.returns-clause-run
returns-clause-run c library name w n = run_waits library name w n
