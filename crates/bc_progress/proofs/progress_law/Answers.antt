use Rattle.bc_progress.specs.Slots.{anything}
use Rattle.bc_progress.specs.Known.{objects_of}
use Rattle.bc_machine.specs.Step.{step}
use Rattle.bc_progress.proofs.Knowing.{all_covered}
use Rattle.bc_progress.proofs.Whole.{step_fits, steps_fit}
use Rattle.bc_progress.proofs.progress_law.Goals as goal

pub returns-clause-step : goal.returns-clause-step
returns-clause-step c plans library s follows f = step_fits anything plans library follows s f (all_covered (objects_of (step library s)))

pub returns-clause-steps : goal.returns-clause-steps
returns-clause-steps c plans library n s follows f = steps_fit plans library follows n s f
