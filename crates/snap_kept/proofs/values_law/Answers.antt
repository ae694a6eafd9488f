use Rattle.snap_kept.proofs.Running.{start_kept, step_kept, run_kept}
use Rattle.snap_kept.proofs.values_law.Goals as goal

pub returns-clause-start : goal.returns-clause-start
returns-clause-start c library name w sound = start_kept library name w sound

pub returns-clause-step : goal.returns-clause-step
returns-clause-step c library plans s constants follows fits kept = step_kept library constants plans follows s fits kept

pub returns-clause-run : goal.returns-clause-run
returns-clause-run c library plans name m cells bytes ports n constants follows held = run_kept library constants plans follows name m held cells bytes ports n
