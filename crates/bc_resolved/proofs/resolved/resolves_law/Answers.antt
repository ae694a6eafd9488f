use Rattle.bc_resolved.proofs.Trees.{resolves}
use Rattle.bc_resolved.proofs.resolved.resolves_law.Goals as goal

pub returns-clause-tree : goal.returns-clause-tree
returns-clause-tree c m h = resolves m h (c.file_law.ensures.texts m h)

pub returns-clause-one : goal.returns-clause-one
returns-clause-one c m a b h k = c.resolving_law.ensures m a b h k
