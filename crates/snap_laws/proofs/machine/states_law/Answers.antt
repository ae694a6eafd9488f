use Rattle.snap_laws.proofs.Stepping.{world_as, ends_as, told_as}
use Rattle.snap_laws.proofs.machine.states_law.Goals as goal

pub returns-clause-world : goal.returns-clause-world
returns-clause-world c r s t is = world_as r s t is

pub returns-clause-end : goal.returns-clause-end
returns-clause-end c r s t is = ends_as r s t is

pub returns-clause-report : goal.returns-clause-report
returns-clause-report c r s t is = told_as r s t is
