use Rattle.port_set.proofs.ToldCall.{get_told}
use Rattle.port_set.proofs.laws.get_law.Goals as goal

pub returns : goal.returns
returns c = get_told
