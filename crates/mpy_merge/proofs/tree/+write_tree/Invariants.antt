use Rattle.std.proofs.Common.{◌-◌}
use Rattle.mpy_writer.proofs.mpy_tree_lemmas.Codes.{children}
use Rattle.mpy_merge.proofs.Trees.{Reached}
use Rattle.mpy_merge.proofs.tree.+write_tree.Given as goal

abbrev pub decreases-write_tree : goal.decreases-write_tree
decreases-write_tree l = l.levels

abbrev pub invariant-loop-child : goal.invariant-loop-child
invariant-loop-child l = Reached (l.levels - 1) l.tables l.base l.module (children l.raw) l.child-index l.initial.out.items l.out.items
