use Rattle.std.proofs.Common.{◌≡◌, drop}
use Rattle.std.specs.List.{flat_map}
use Rattle.mpy_writer.specs.Outcome.{all_interned}
use Rattle.mpy_merge.specs.Merged.{texts_of}
use Rattle.mpy_merge.proofs.names.use_tables.Given as goal

abbrev pub invariant-loop-module : goal.invariant-loop-module
invariant-loop-module l = all_interned l.pool (flat_map texts_of (drop l.module-index l.modules)) ≡ all_interned l.initial.pool (flat_map texts_of l.modules)
