use Rattle.snap_laws.proofs.Writing.{str_as, repr_as}
use Rattle.snap_laws.proofs.texts.texts_law.Goals as goal

pub returns-clause-str : goal.returns-clause-str
returns-clause-str c r h k v is = str_as r h k is v

pub returns-clause-repr : goal.returns-clause-repr
returns-clause-repr c r h k v is = repr_as r h k is v
