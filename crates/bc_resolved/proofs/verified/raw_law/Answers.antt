use Rattle.bc_resolved.proofs.Raw.{module_verified}
use Rattle.bc_resolved.proofs.verified.raw_law.Goals as goal

pub returns : goal.returns
returns c m tree r v = module_verified m tree r v
