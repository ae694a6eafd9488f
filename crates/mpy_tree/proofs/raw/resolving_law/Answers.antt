use Rattle.mpy_tree.proofs.Resolving.{one_resolved}
use Rattle.mpy_tree.proofs.raw.resolving_law.Goals as goal

pub returns : goal.returns
returns c = λ m a b h k. one_resolved m a b h k
