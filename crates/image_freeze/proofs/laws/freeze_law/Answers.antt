use Rattle.image_freeze.proofs.Ended.{one_fault}
use Rattle.image_freeze.proofs.Alike.{frozen_resolves, frozen_verified}
use Rattle.image_freeze.proofs.laws.freeze_law.Goals as goal

pub returns-clause-verified : goal.returns-clause-verified
returns-clause-verified c = λ m h. frozen_verified m h

pub returns-clause-resolves : goal.returns-clause-resolves
returns-clause-resolves c = λ m tree h. frozen_resolves m tree h

pub returns-clause-one_fault : goal.returns-clause-one_fault
returns-clause-one_fault c = λ front below entries f g h k. one_fault front below entries f g h k
