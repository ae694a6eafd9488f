use Rattle.std.proofs.Common.{◌≡◌, map, drop}
use Rattle.std.specs.List.{flat_map}
use Rattle.mpy_writer.specs.Codes.{objects_in}
use Rattle.mpy_writer.specs.Outcome.{all_interned}
use Rattle.mpy_writer.specs.Tables.{spelled}
use Rattle.mpy_writer.proofs.tables.use_all_objects.Given as goal

abbrev pub invariant-loop-code : goal.invariant-loop-code
invariant-loop-code l = all_interned l.pool (map spelled (flat_map objects_in (drop l.code-index (map (λ c. c.now) l.codes)))) ≡ all_interned l.initial.pool (map spelled (flat_map objects_in (map (λ c. c.now) l.codes)))
