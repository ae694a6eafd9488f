use Rattle.std.proofs.Common.{◌≡◌, ◌-◌, ◌++◌, drop}
use Rattle.std.specs.List.{flat_map}
use Rattle.mpy_writer.specs.mpy_tree.Canonical.{code_bytes}
use Rattle.image_freeze.proofs.codes.+write_tree.Given as goal

abbrev pub decreases-write_tree : goal.decreases-write_tree
decreases-write_tree l = l.levels

abbrev pub invariant-loop-child : goal.invariant-loop-child
invariant-loop-child l = l.out.items ++ flat_map (code_bytes (l.levels - 1)) (drop l.child-index l.child-items) ≡ l.initial.out.items ++ flat_map (code_bytes (l.levels - 1)) l.child-items
