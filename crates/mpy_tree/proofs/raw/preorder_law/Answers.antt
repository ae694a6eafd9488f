use Rattle.mpy_tree.proofs.Codes.{module_placed, module_has, module_ordered, module_numbered}
use Rattle.mpy_tree.proofs.raw.preorder_law.Goals as goal

pub returns-clause-placed : goal.returns-clause-placed
returns-clause-placed c = λ m k place e. module_placed m k place e

pub returns-clause-all : goal.returns-clause-all
returns-clause-all c = λ m path code is e. module_has m path code is e

pub returns-clause-order : goal.returns-clause-order
returns-clause-order c = λ m j k a b e f lt. module_ordered m j k a b e f lt

pub returns-clause-children : goal.returns-clause-children
returns-clause-children c = λ m k n j place is e f. module_numbered m k n j place is e f
