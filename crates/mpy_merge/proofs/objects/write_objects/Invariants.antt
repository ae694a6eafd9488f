use Rattle.std.proofs.Common.{◌≡◌, ◌++◌, drop}
use Rattle.std.specs.List.{flat_map}
use Rattle.mpy_writer.specs.Tables.{spelled}
use Rattle.mpy_merge.specs.Merged.{all_objects}
use Rattle.mpy_merge.proofs.objects.write_objects.Given as goal

abbrev pub invariant-loop-module : goal.invariant-loop-module
invariant-loop-module l = l.out.items ++ flat_map spelled (all_objects (drop l.module-index l.modules)) ≡ l.initial.out.items ++ flat_map spelled (all_objects l.modules)
