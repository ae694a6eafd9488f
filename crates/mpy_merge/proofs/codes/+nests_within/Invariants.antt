use Rattle.std.proofs.Common.{◌-◌, All, take}
use Rattle.mpy_merge.specs.Merged.{NestsWithin}
use Rattle.mpy_writer.proofs.mpy_tree_lemmas.Codes.{children}
use Rattle.mpy_merge.proofs.codes.+nests_within.Given as goal

abbrev pub decreases-nests_within : goal.decreases-nests_within
decreases-nests_within l = l.levels

abbrev pub invariant-loop-child : goal.invariant-loop-child
invariant-loop-child l = All (NestsWithin (l.levels - 1)) (take l.child-index (children l.code))
