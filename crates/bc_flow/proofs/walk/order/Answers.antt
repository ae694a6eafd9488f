use Rattle.bc_flow.proofs.Decides.{decides}
use Rattle.bc_flow.proofs.walk.order.Goals as goal

pub returns : goal.returns
returns c = decides
