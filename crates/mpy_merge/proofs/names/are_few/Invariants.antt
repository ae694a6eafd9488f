use Rattle.std.proofs.Common.{◌≡◌, ◌+◌, length, take}
use Rattle.mpy_base.specs.declared.limits.TheConstants.{MAX_TABLE}
use Rattle.mpy_merge.specs.Merged.{all_objects}
use Rattle.mpy_merge.proofs.names.are_few.Given as goal

abbrev pub invariant-loop-module : goal.invariant-loop-module
invariant-loop-module l = l.left + length (all_objects (take l.module-index l.modules)) ≡ MAX_TABLE
