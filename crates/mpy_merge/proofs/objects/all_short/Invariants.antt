use Rattle.std.proofs.Common.{All, take}
use Rattle.mpy_base.specs.declared.limits.TheConstants.{MAX_DEPTH}
use Rattle.mpy_writer.specs.Writable.{IsFine}
use Rattle.mpy_merge.specs.Merged.{all_objects}
use Rattle.mpy_merge.proofs.objects.all_short.Given as goal

abbrev pub invariant-loop-module : goal.invariant-loop-module
invariant-loop-module l = All (IsFine MAX_DEPTH) (all_objects (take l.module-index l.modules))
