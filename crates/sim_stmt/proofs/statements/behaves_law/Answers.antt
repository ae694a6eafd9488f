use Rattle.sim_stmt.proofs.Linked.{behaves_linked}
use Rattle.sim_stmt.proofs.statements.behaves_law.Goals as goal

pub returns : goal.returns
returns c program library cells bytes ports links = behaves_linked program library links cells bytes ports
