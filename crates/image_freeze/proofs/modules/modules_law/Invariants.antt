use Rattle.std.proofs.Common.{All, take}
use Rattle.mpy_writer.specs.mpy_tree.File.{IsModule}
use Rattle.image_freeze.specs.declared.named.Named.{Named}
use Rattle.image_freeze.proofs.modules.modules_law.Given as goal

abbrev pub invariant-loop-module : goal.invariant-loop-module
invariant-loop-module l = All (λ (m : Named). IsModule m.held) (take l.module-index l.modules)
