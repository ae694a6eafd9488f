use Rattle.bc_refusals.proofs.bc_flow_lemmas.Decides.{decides}
use Rattle.bc_verify.specs.Body.{flow_of}
use Rattle.bc_verify.proofs.verified.order.Goals as goal

pub returns : goal.returns
returns c body = decides (flow_of body)
