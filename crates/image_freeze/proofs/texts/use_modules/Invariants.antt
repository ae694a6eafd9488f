use Rattle.std.proofs.Common.{◌≡◌, drop}
use Rattle.std.specs.List.{flat_map}
use Rattle.image_open.specs.bc_library.Texts.{texts_of, with_texts}
use Rattle.image_freeze.proofs.Pools.{raw_texts}
use Rattle.image_freeze.proofs.texts.use_modules.Given as goal

abbrev pub invariant-loop-module : goal.invariant-loop-module
invariant-loop-module l = with_texts l.pool (raw_texts (drop l.module-index l.modules)) ≡ with_texts l.initial.pool (raw_texts l.modules)
