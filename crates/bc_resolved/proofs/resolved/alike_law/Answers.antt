use Rattle.bc_resolved.proofs.Alike.{same_module, same_library, same_run}
use Rattle.bc_resolved.proofs.resolved.alike_law.Goals as goal

pub returns-clause-modules : goal.returns-clause-modules
returns-clause-modules c a b x y h k l = same_module c.resolving_law.ensures a b x y h k l

pub returns-clause-libraries : goal.returns-clause-libraries
returns-clause-libraries c first second x y h k l = same_library c.resolving_law.ensures first second x y h k l

pub returns-clause-runs : goal.returns-clause-runs
returns-clause-runs c first second x y h k l name cells bytes ports n = same_run c.resolving_law.ensures first second x y h k l name cells bytes ports n
