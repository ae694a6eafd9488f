use Rattle.std.proofs.Common.{◌≡◌, ◌+◌, ◌≤◌, drop}
use Rattle.prim_calls.specs.Slots.{count_empty}
use Rattle.prim_calls.proofs.slots.empty_slots.Given as goal

-- what was counted, and the empty ones that are left
abbrev pub invariant-loop-slot : goal.invariant-loop-slot
invariant-loop-slot l = (l.count + count_empty (drop l.slot-index l.slots) ≡ count_empty l.slots) × (l.count ≤ l.slot-index)
