use Rattle.std.proofs.Common.{◌≡◌, ◌++◌, drop}
use Rattle.std.specs.List.{flat_map}
use Rattle.snap_saving.specs.Shown.{shown_slots}
use Rattle.snap_saving.specs.Steps.{found, slot_bytes}
use Rattle.snap_saving.proofs.frames.put_slots.Given as goal

-- what is added and what is still to be added
abbrev pub invariant-loop-i : goal.invariant-loop-i
invariant-loop-i l = l.out.items ++ flat_map (slot_bytes l.library (found l.places)) (shown_slots (drop l.i l.slots)) ≡ l.initial.out.items ++ flat_map (slot_bytes l.library (found l.places)) (shown_slots l.slots)
