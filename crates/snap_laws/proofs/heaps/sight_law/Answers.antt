use Rattle.snap_laws.proofs.Seen.{seen, truth_as, equal_as}
use Rattle.snap_laws.proofs.heaps.sight_law.Goals as goal

pub returns-clause-seen : goal.returns-clause-seen
returns-clause-seen c r h k v is = seen r h k is v

pub returns-clause-truth : goal.returns-clause-truth
returns-clause-truth c r h k v is = truth_as r h k is v

pub returns-clause-equal : goal.returns-clause-equal
returns-clause-equal c r h k a b is = equal_as r h k is a b
