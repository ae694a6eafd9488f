use Rattle.sim_stmt.proofs.Follows.{statements, blocks}
use Rattle.sim_stmt.proofs.simulation.statements_law.Goals as goal

pub returns-clause-statements : goal.returns-clause-statements
returns-clause-statements c program library links = statements program library links

pub returns-clause-blocks : goal.returns-clause-blocks
returns-clause-blocks c program library links = blocks program library links
