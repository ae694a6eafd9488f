use Rattle.bc_prelude.proofs.Indexes.{names_spelled, same_indexes, same_names}
use Rattle.bc_prelude.proofs.names.names_law.Goals as goal

pub returns-clause-spells : goal.returns-clause-spells
returns-clause-spells c = names_spelled

pub returns-clause-one_text : goal.returns-clause-one_text
returns-clause-one_text c m n a b x y p q l e = (same_indexes m n a b x y p q l e, (same_names m n a b x y p q l e).0)
