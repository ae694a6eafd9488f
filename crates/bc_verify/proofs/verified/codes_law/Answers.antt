use Rattle.bc_verify.proofs.Trees.{short_codes}
use Rattle.bc_verify.proofs.verified.codes_law.Goals as goal

pub returns : goal.returns
returns c = short_codes
