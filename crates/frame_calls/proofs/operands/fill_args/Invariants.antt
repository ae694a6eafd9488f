use Rattle.std.proofs.Common.{◌≡◌, ◌+◌, ◌-◌, ◌≤◌, length, drop}
use Rattle.std.specs.Vec.{vec_capacity}
use Rattle.frame_calls.specs.Operands.{running_slots, values_in}
use Rattle.frame_calls.proofs.operands.fill_args.Given as goal

abbrev pub invariant-loop-left : goal.invariant-loop-left
invariant-loop-left l = record {
  room : vec_capacity l.fn.args ≤ vec_capacity l.args;
  many : length l.args.items + l.left ≡ l.count;
  args : l.args.items ≡ values_in (l.count - l.left) (drop (l.above + l.left) (running_slots l.frames.calls));
}

abbrev pub decreases-loop-left : goal.decreases-loop-left
decreases-loop-left l = l.left
