use Rattle.std.proofs.Common.{◌↔◌, ◌≤◌, drop}
use Rattle.snap_states.specs.Parts.{bytes_of_parts}
use Rattle.snap_states.proofs.room.hold_bytes.Given as goal

abbrev pub invariant-loop-object : goal.invariant-loop-object
invariant-loop-object l = (bytes_of_parts l.objects ≤ l.used) ↔ (bytes_of_parts (drop l.object-index l.objects) ≤ l.left)
