use Rattle.bc_certificates.specs.Rows.{carried}
use Rattle.bc_certificates.proofs.Carrying.{certified}
use Rattle.bc_certificates.proofs.certificate_law.Goals as goal

pub returns : goal.returns
returns c = record {
  holds = λ code rows h. certified code rows h;
  verified = λ code rows h. (carried code rows, certified code rows h);
}
