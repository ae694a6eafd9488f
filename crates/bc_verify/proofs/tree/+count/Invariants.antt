use Rattle.std.proofs.Common.{◌≡◌, ◌+◌, ◌-◌, ◌^◌, take}
use Rattle.std.specs.Prelude.{min, sum_by}
use Rattle.mpy_tree.specs.declared.raw.RawCode.{out-RawCode}
use Rattle.mpy_tree.proofs.Codes.{count_to}
use Rattle.bc_verify.proofs.tree.+count.Given as goal

abbrev pub decreases-count : goal.decreases-count
decreases-count l = l.levels

abbrev pub invariant-loop-child : goal.invariant-loop-child
invariant-loop-child l = l.codes ≡ min (1 + sum_by (count_to (l.levels - 1)) (take l.child-index (out-RawCode l.code).children)) (2 ^ 64 - 1)
