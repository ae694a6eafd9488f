use Rattle.std.proofs.Common.{◌≡◌, ◌≤◌, length}
use Rattle.vm_frames.specs.Held.{with_call}
use Rattle.vm_frames.specs.Moves.{jumped}
use Rattle.vm_frames.proofs.moves.jump.Given as goal

abbrev pub invariant-entries : goal.invariant-entries
invariant-entries l = record {
  within : l.left ≤ length l.frame.call.entries;
  same : l.frame ≡ with_call l.fn.frame (record l.fn.frame.call { slots = l.frame.call.slots; entries = l.frame.call.entries });
  jumps : jumped l.target l.entries l.iterator' l.fn.frame.call.entries l.fn.frame.call.slots l.fn.frame.call ≡ jumped l.target l.left l.iterator' l.frame.call.entries l.frame.call.slots l.fn.frame.call;
}

abbrev pub decreases-entries : goal.decreases-entries
decreases-entries l = l.left
