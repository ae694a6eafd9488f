use Rattle.snap_laws.proofs.Changes.{set_as, used_as, made_as, number_as}
use Rattle.snap_laws.proofs.heaps.heap_law.Goals as goal

pub returns-clause-set : goal.returns-clause-set
returns-clause-set c r h k n o is = set_as r h k is n o

pub returns-clause-used : goal.returns-clause-used
returns-clause-used c r h k cells is = used_as r h k is cells

pub returns-clause-made : goal.returns-clause-made
returns-clause-made c r h k o is = made_as r h k is o

pub returns-clause-number : goal.returns-clause-number
returns-clause-number c r h k is = number_as r h k is
