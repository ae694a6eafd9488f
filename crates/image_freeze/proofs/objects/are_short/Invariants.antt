use Rattle.std.proofs.Common.{All, take}
use Rattle.mpy_base.specs.declared.limits.TheConstants.{MAX_DEPTH}
use Rattle.mpy_writer.specs.Writable.{IsFine}
use Rattle.image_freeze.proofs.objects.are_short.Given as goal

abbrev pub invariant-loop-object : goal.invariant-loop-object
invariant-loop-object l = All (IsFine MAX_DEPTH) (take l.object-index l.objects)
