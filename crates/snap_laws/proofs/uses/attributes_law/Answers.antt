use Rattle.snap_laws.proofs.Using.{attribute_same, get_attr_as, set_attr_as}
use Rattle.snap_laws.proofs.uses.attributes_law.Goals as goal

pub returns-clause-found : goal.returns-clause-found
returns-clause-found c r h k v name is = attribute_same r h k is v name

pub returns-clause-got : goal.returns-clause-got
returns-clause-got c r h k v name is = get_attr_as r h k is v name

pub returns-clause-put : goal.returns-clause-put
returns-clause-put c r h k o name v is = set_attr_as r h k is o name v
