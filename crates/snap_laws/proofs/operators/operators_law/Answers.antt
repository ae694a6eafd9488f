use Rattle.snap_laws.proofs.Comparing.{in_place_as, unary_as, not_as}
use Rattle.snap_laws.proofs.operators.operators_law.Goals as goal

pub returns-clause-in_place : goal.returns-clause-in_place
returns-clause-in_place c r h k op a b is = in_place_as r h k is op a b

pub returns-clause-unary : goal.returns-clause-unary
returns-clause-unary c r h k op v is = unary_as r h k is op v

pub returns-clause-negated : goal.returns-clause-negated
returns-clause-negated c r h k v is = not_as r h k is v
