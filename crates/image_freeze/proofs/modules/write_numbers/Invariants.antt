use Rattle.std.proofs.Common.{◌≡◌, ◌++◌, drop}
use Rattle.std.specs.List.{flat_map}
use Rattle.image_freeze.specs.Frozen.{number_bytes}
use Rattle.image_freeze.proofs.modules.write_numbers.Given as goal

abbrev pub invariant-loop-qstr : goal.invariant-loop-qstr
invariant-loop-qstr l = l.out.items ++ flat_map (number_bytes l.pool) (drop l.qstr-index l.qstrs) ≡ l.initial.out.items ++ flat_map (number_bytes l.pool) l.qstrs
