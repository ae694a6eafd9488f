use Rattle.std.proofs.Common.{◌≡◌, ◌++◌, drop}
use Rattle.std.specs.List.{flat_map}
use Rattle.mpy_base.specs.World.{pairs_at}
use Rattle.snap_saving.specs.Steps.{found, pair_bytes}
use Rattle.snap_saving.proofs.objects.put_pairs.Given as goal

-- what is added and what is still to be added
abbrev pub invariant-loop-at : goal.invariant-loop-at
invariant-loop-at l = l.out.items ++ flat_map (pair_bytes l.library (found l.places)) (drop l.at (pairs_at l.arena l.d.cell)) ≡ l.initial.out.items ++ flat_map (pair_bytes l.library (found l.places)) (pairs_at l.arena l.d.cell)
