use Rattle.snap_laws.proofs.Binary.{binary_as}
use Rattle.snap_laws.proofs.operators.operator_law.Goals as goal

pub returns : goal.returns
returns c r h k op a b is = binary_as r h k is op a b
