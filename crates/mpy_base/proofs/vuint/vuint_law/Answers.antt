use Rattle.mpy_base.proofs.Groups.{vuint_spells, shortest, one_number}
use Rattle.mpy_base.proofs.vuint.vuint_law.Goals as goal

pub returns-clause-spells : goal.returns-clause-spells
returns-clause-spells c = vuint_spells

pub returns-clause-shortest : goal.returns-clause-shortest
returns-clause-shortest c = shortest

pub returns-clause-one_number : goal.returns-clause-one_number
returns-clause-one_number c a b x y m n s t e = one_number a b x y m n s.groups t.groups e
