use Rattle.std.proofs.Common.{All, take}
use Rattle.mpy_writer.specs.mpy_tree.File.{IsModule}
use Rattle.bc_verify.specs.Verified.{IsVerified}
use Rattle.mpy_merge.proofs.file.modules_law.Given as goal

abbrev pub invariant-loop-module : goal.invariant-loop-module
invariant-loop-module l = All IsModule (take l.module-index l.modules) × All IsVerified (take l.module-index l.modules)
