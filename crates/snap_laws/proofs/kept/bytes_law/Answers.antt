use Rattle.snap_laws.proofs.FillingEffects.{start_holds, step_holds, run_holds}
use Rattle.snap_laws.proofs.kept.bytes_law.Goals as goal

pub returns-clause-start : goal.returns-clause-start
returns-clause-start c library name w holds = start_holds library name w holds

pub returns-clause-step : goal.returns-clause-step
returns-clause-step c library s holds = step_holds library s holds

pub returns-clause-run : goal.returns-clause-run
returns-clause-run c library name cells bytes ports n = run_holds library name cells bytes ports n
