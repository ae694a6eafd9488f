use Rattle.std.proofs.Common.{◌≡◌, ◌++◌, drop}
use Rattle.std.specs.List.{flat_map}
use Rattle.mpy_base.specs.World.{items_at}
use Rattle.snap_saving.specs.Steps.{found, value_bytes}
use Rattle.snap_saving.proofs.objects.put_items.Given as goal

-- what is added and what is still to be added
abbrev pub invariant-loop-at : goal.invariant-loop-at
invariant-loop-at l = l.out.items ++ flat_map (value_bytes l.library (found l.places)) (drop l.at (items_at l.arena l.l.cell)) ≡ l.initial.out.items ++ flat_map (value_bytes l.library (found l.places)) (items_at l.arena l.l.cell)
