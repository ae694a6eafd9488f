use Rattle.std.proofs.Common.{◌≡◌, ◌++◌, drop}
use Rattle.std.specs.List.{flat_map}
use Rattle.image_freeze.proofs.Parts.{named_bytes}
use Rattle.image_freeze.proofs.modules.write_modules.Given as goal

abbrev pub invariant-loop-module : goal.invariant-loop-module
invariant-loop-module l = l.out.items ++ flat_map (named_bytes l.pool) (drop l.module-index l.modules) ≡ l.initial.out.items ++ flat_map (named_bytes l.pool) l.modules
