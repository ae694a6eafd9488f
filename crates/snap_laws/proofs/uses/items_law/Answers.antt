use Rattle.snap_laws.proofs.Using.{get_item_as, set_item_as, delete_item_as}
use Rattle.snap_laws.proofs.uses.items_law.Goals as goal

pub returns-clause-got : goal.returns-clause-got
returns-clause-got c r h k v index is = get_item_as r h k is v index

pub returns-clause-put : goal.returns-clause-put
returns-clause-put c r h k o index v is = set_item_as r h k is o index v

pub returns-clause-deleted : goal.returns-clause-deleted
returns-clause-deleted c r h k o index is = delete_item_as r h k is o index
