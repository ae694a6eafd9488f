use Rattle.sim_stmt.proofs.Follows.{first_import, last_import}
use Rattle.sim_stmt.proofs.simulation.imports_law.Goals as goal

pub returns-clause-first : goal.returns-clause-first
returns-clause-first c program library links = first_import program library links

pub returns-clause-last : goal.returns-clause-last
returns-clause-last c program library links names asks = last_import program library links names asks
