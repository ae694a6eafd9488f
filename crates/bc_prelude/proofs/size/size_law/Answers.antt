use Rattle.bc_prelude.proofs.Written.{size_spells, size_shortest, one_size}
use Rattle.bc_prelude.proofs.size.size_law.Goals as goal

pub returns-clause-spells : goal.returns-clause-spells
returns-clause-spells c = size_spells

pub returns-clause-shortest : goal.returns-clause-shortest
returns-clause-shortest c = size_shortest

pub returns-clause-one_size : goal.returns-clause-one_size
returns-clause-one_size c = one_size
