use Rattle.std.proofs.Common.{All, take}
use Rattle.mpy_merge.specs.Merged.{NestsWithin}
use Rattle.mpy_merge.proofs.codes.all_nest.Given as goal

abbrev pub invariant-loop-module : goal.invariant-loop-module
invariant-loop-module l = All (λ m. NestsWithin 31 m.code) (take l.module-index l.modules)
