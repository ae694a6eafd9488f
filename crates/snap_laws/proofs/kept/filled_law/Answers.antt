use Rattle.snap_laws.proofs.FillingEffects.{start_filled, step_filled, run_filled}
use Rattle.snap_laws.proofs.kept.filled_law.Goals as goal

pub returns-clause-start : goal.returns-clause-start
returns-clause-start c library name w filled = start_filled library name w filled

pub returns-clause-step : goal.returns-clause-step
returns-clause-step c library s filled = step_filled library s filled

pub returns-clause-run : goal.returns-clause-run
returns-clause-run c library name cells bytes ports n = run_filled library name cells bytes ports n
