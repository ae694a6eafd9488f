use Rattle.std.proofs.Common.{◌≡◌, ◌+◌, ◌≤◌, length, drop}
use Rattle.snap_saving.specs.Shown.{shown_slots}
use Rattle.snap_saving.proofs.frames.count_slots.Given as goal

-- how many are shown so far, and how many are still to come
abbrev pub invariant-loop-i : goal.invariant-loop-i
invariant-loop-i l = record {
  few : l.count ≤ l.i;
  counted : l.count + length (shown_slots (drop l.i l.slots)) ≡ length (shown_slots l.slots);
}
