use Rattle.std.proofs.Common.{◌≡◌, ◌≤◌, length, reverse, take}
use Rattle.std.specs.Prelude.{slice_get}
use Rattle.vm_frames.specs.Moves.{kept_in}
use Rattle.vm_frames.proofs.frame.last_kept.Given as goal

abbrev pub invariant-loop-i : goal.invariant-loop-i
invariant-loop-i l = record {
  within : l.i ≤ length l.entries;
  same : slice_get (kept_in (reverse l.entries)) 0 ≡ slice_get (kept_in (reverse (take l.i l.entries))) 0;
}

abbrev pub decreases-loop-i : goal.decreases-loop-i
decreases-loop-i l = l.i
