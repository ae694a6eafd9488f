use Rattle.std.proofs.Common.{refl}
use Rattle.bc_scheme.proofs.merge_law.Goals as goal

pub returns : goal.returns
returns c m ms = refl
