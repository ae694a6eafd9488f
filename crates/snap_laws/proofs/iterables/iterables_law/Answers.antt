use Rattle.snap_laws.proofs.Iterating.{items_in_as, length_as, item_of_as, iter_as}
use Rattle.snap_laws.proofs.Using.{unpack_as}
use Rattle.snap_laws.proofs.iterables.iterables_law.Goals as goal

pub returns-clause-items : goal.returns-clause-items
returns-clause-items c r h k v is = items_in_as r h k is v

pub returns-clause-length : goal.returns-clause-length
returns-clause-length c r h k v is = length_as r h k is v

pub returns-clause-item : goal.returns-clause-item
returns-clause-item c r h k v at is = item_of_as r h k is v at

pub returns-clause-iterable : goal.returns-clause-iterable
returns-clause-iterable c r h k v is = iter_as r h k is v

pub returns-clause-unpacked : goal.returns-clause-unpacked
returns-clause-unpacked c r h k want v is = unpack_as r h k is want v
