use Rattle.std.proofs.Common.{◌≡◌, length, take}
use Rattle.mpy_merge.specs.Merged.{all_objects}
use Rattle.mpy_merge.proofs.objects.count_objects.Given as goal

abbrev pub invariant-loop-module : goal.invariant-loop-module
invariant-loop-module l = l.count ≡ length (all_objects (take l.module-index l.modules))
