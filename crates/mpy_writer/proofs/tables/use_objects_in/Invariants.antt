use Rattle.std.proofs.Common.{◌≡◌, map, drop}
use Rattle.std.specs.List.{flat_map}
use Rattle.mpy_writer.specs.Codes.{object_in}
use Rattle.mpy_writer.specs.Outcome.{all_interned}
use Rattle.mpy_writer.specs.Tables.{spelled}
use Rattle.mpy_writer.proofs.tables.use_objects_in.Given as goal

abbrev pub invariant-loop-item : goal.invariant-loop-item
invariant-loop-item l = all_interned l.pool (map spelled (flat_map object_in (drop l.item-index l.item-items))) ≡ all_interned l.initial.pool (map spelled (flat_map object_in l.item-items))
