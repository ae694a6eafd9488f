use Rattle.std.proofs.Common.{◌≡◌, ◌+◌, ◌*◌, ◌-◌, ◌≤◌, length, drop}
use Rattle.std.specs.Vec.{vec_capacity}
use Rattle.frame_calls.specs.Operands.{running_slots, values_in, paired}
use Rattle.frame_calls.proofs.operands.fill_keys.Given as goal

abbrev pub invariant-loop-left : goal.invariant-loop-left
invariant-loop-left l = record {
  room : vec_capacity l.fn.keys ≤ vec_capacity l.keys;
  many : length l.keys.items + l.left ≡ l.pairs;
  keys : l.keys.items ≡ paired (values_in (2 * (l.pairs - l.left)) (drop (2 * l.left) (running_slots l.frames.calls)));
}

abbrev pub decreases-loop-left : goal.decreases-loop-left
decreases-loop-left l = l.left
