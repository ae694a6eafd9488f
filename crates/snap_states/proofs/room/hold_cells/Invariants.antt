use Rattle.std.proofs.Common.{◌↔◌, ◌≤◌, drop}
use Rattle.snap_states.specs.Parts.{cells_of_parts}
use Rattle.snap_states.proofs.room.hold_cells.Given as goal

abbrev pub invariant-loop-object : goal.invariant-loop-object
invariant-loop-object l = (cells_of_parts l.objects ≤ l.used) ↔ (cells_of_parts (drop l.object-index l.objects) ≤ l.left)
