use Rattle.bc_resolved.proofs.Unraw.{tree_verified}
use Rattle.bc_resolved.proofs.verified.tree_law.Goals as goal

pub returns : goal.returns
returns c m tree texts r v = tree_verified m tree texts r v
