use Rattle.std.proofs.Common.{◌≡◌, ◌++◌, drop}
use Rattle.std.specs.List.{concat}
use Rattle.mpy_writer.proofs.file.write_objects.Given as goal

abbrev pub invariant-loop-n : goal.invariant-loop-n
invariant-loop-n l = l.out.items ++ concat (drop l.n l.objects.texts) ≡ l.initial.out.items ++ concat l.objects.texts
