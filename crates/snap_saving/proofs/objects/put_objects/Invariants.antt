use Rattle.std.proofs.Common.{◌≡◌, ◌++◌, drop}
use Rattle.std.specs.List.{flat_map}
use Rattle.snap_saving.specs.Steps.{found, object_bytes}
use Rattle.snap_saving.proofs.objects.put_objects.Given as goal

-- what is added and what is still to be added
abbrev pub invariant-loop-cell : goal.invariant-loop-cell
invariant-loop-cell l = l.out.items ++ flat_map (object_bytes l.library (found l.places)) (drop l.cell (l.arena.objects)) ≡ l.initial.out.items ++ flat_map (object_bytes l.library (found l.places)) (l.arena.objects)
