use Rattle.tr_source.proofs.Units.{unit_verified, unit_once}
use Rattle.tr_source.proofs.asked.unit_law.Goals as goal

pub returns-clause-verified : goal.returns-clause-verified
returns-clause-verified c unit m a h = unit_verified c.accepted_law.ensures.verified c.merge_law.ensures unit m a h

pub returns-clause-one : goal.returns-clause-one
returns-clause-one c unit m n a h k = unit_once c.accepted_law.ensures.one unit m n a h k
