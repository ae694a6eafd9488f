use Rattle.sim_stmt.proofs.Follows.{expressions}
use Rattle.sim_stmt.proofs.simulation.expressions_law.Goals as goal

pub returns : goal.returns
returns c program library links = expressions program library links
