use Rattle.std.proofs.Common.{◌≡◌, ◌++◌, drop, length, map, take}
use Rattle.bc_refusals.specs.Stages.{open_kind}
use Rattle.bc_refusals.proofs.opening.open_slots.Given as goal

abbrev pub invariant-loop-i : goal.invariant-loop-i
invariant-loop-i l = record {
  long : length l.slots.items ≡ length l.initial.slots.items;
  items : l.slots.items ≡ map open_kind (take l.i l.initial.slots.items) ++ drop l.i l.initial.slots.items;
}
