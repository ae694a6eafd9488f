use Rattle.std.proofs.Common.{◌≤◌, length, drop, take, reverse}
use Rattle.snap_states.specs.Stacks.{stack_as}
use Rattle.snap_states.specs.Fronts.{IsFront}
use Rattle.snap_states.proofs.slots.stack_of.Given as goal

abbrev pub invariant-loop-left : goal.invariant-loop-left
invariant-loop-left l = record {
  front : IsFront l.known.library.now l.known.snapshot.now l.offsets (reverse l.parts) l.kinds (stack_as l.stack.items) (reverse (take l.left l.parts)) (drop (length (stack_as l.stack.items)) l.kinds);
  within : l.left ≤ length l.parts;
  long : length (stack_as l.stack.items) ≤ length l.kinds;
}

abbrev pub decreases-loop-left : goal.decreases-loop-left
decreases-loop-left l = l.left
