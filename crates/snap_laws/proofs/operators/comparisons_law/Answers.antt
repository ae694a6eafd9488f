use Rattle.snap_laws.proofs.Comparing.{order_same, eq_as, ne_as, op_order_as, is_as, op_contains_as, match_as}
use Rattle.snap_laws.proofs.operators.comparisons_law.Goals as goal

pub returns-clause-order : goal.returns-clause-order
returns-clause-order c r h k a b is = order_same r h k is a b

pub returns-clause-equal : goal.returns-clause-equal
returns-clause-equal c r h k a b is = eq_as r h k is a b

pub returns-clause-unequal : goal.returns-clause-unequal
returns-clause-unequal c r h k a b is = ne_as r h k is a b

pub returns-clause-ordered : goal.returns-clause-ordered
returns-clause-ordered c r h k sign a b is = op_order_as r h k is sign a b

pub returns-clause-identical : goal.returns-clause-identical
returns-clause-identical c r h k a b is = is_as r h k is a b

pub returns-clause-contained : goal.returns-clause-contained
returns-clause-contained c r h k v container is = op_contains_as r h k is v container

pub returns-clause-handled : goal.returns-clause-handled
returns-clause-handled c r h k e kinds is = match_as r h k is e kinds
