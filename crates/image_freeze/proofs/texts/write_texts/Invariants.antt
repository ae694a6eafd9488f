use Rattle.std.proofs.Common.{◌≡◌, ◌++◌, drop}
use Rattle.std.specs.List.{flat_map}
use Rattle.image_freeze.specs.Frozen.{own_bytes}
use Rattle.image_freeze.proofs.texts.write_texts.Given as goal

abbrev pub invariant-loop-place : goal.invariant-loop-place
invariant-loop-place l = l.out.items ++ flat_map own_bytes (drop l.place (drop l.texts_below l.pool.texts)) ≡ l.initial.out.items ++ flat_map own_bytes (drop l.texts_below l.pool.texts)
