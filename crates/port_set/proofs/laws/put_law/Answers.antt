use Rattle.port_set.proofs.ToldCall.{put_told}
use Rattle.port_set.proofs.laws.put_law.Goals as goal

pub returns : goal.returns
returns c = put_told
