use Rattle.std.proofs.Common.{All, take}
use Rattle.mpy_base.specs.declared.limits.TheConstants.{MAX_DEPTH}
use Rattle.mpy_writer.specs.Writable.{IsFine}
use Rattle.image_freeze.specs.declared.named.Named.{Named}
use Rattle.image_freeze.proofs.objects.objects_are_short.Given as goal

abbrev pub invariant-loop-module : goal.invariant-loop-module
invariant-loop-module l = All (λ (m : Named). All (IsFine MAX_DEPTH) m.held.objects) (take l.module-index l.modules)
