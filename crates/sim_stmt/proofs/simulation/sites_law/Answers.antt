use Rattle.sim_stmt.proofs.Follows.{texts}
use Rattle.sim_stmt.proofs.simulation.sites_law.Goals as goal

pub returns : goal.returns
returns c program library links name number text is names role waiting = texts program library links name number text is names role waiting
