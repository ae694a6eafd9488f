use Rattle.bc_verify.proofs.Trees.{Done}
use Rattle.bc_verify.proofs.tree.+tree_fault.Given as goal

abbrev pub decreases-tree_fault : goal.decreases-tree_fault
decreases-tree_fault l = l.levels

abbrev pub invariant-loop-place : goal.invariant-loop-place
invariant-loop-place l = Done l.module l.code l.place
