use Rattle.sim_stmt.proofs.Follows.{calls, methods}
use Rattle.sim_stmt.proofs.simulation.calls_law.Goals as goal

pub returns-clause-values : goal.returns-clause-values
returns-clause-values c program library links = calls program library links

pub returns-clause-methods : goal.returns-clause-methods
returns-clause-methods c program library links = methods program library links
