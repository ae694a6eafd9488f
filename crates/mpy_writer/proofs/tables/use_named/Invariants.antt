use Rattle.std.proofs.Common.{◌≡◌, drop}
use Rattle.std.specs.List.{flat_map}
use Rattle.mpy_writer.specs.Codes.{text_in}
use Rattle.mpy_writer.specs.Outcome.{all_interned}
use Rattle.mpy_writer.proofs.tables.use_named.Given as goal

abbrev pub invariant-loop-item : goal.invariant-loop-item
invariant-loop-item l = all_interned l.pool (flat_map text_in (drop l.item-index l.items)) ≡ all_interned l.initial.pool (flat_map text_in l.items)
