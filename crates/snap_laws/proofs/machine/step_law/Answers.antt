use Rattle.snap_laws.proofs.Stepping.{step_as, steps_as}
use Rattle.snap_laws.proofs.machine.step_law.Goals as goal

pub returns-clause-step : goal.returns-clause-step
returns-clause-step c r library s t keeps is = step_as r library keeps s t is

pub returns-clause-steps : goal.returns-clause-steps
returns-clause-steps c r library n s t keeps is = steps_as r library keeps n s t is
