use Rattle.std.proofs.Common.{◌≡◌, length}
use Rattle.std.specs.Prelude.{All}
use Rattle.vm_frames.specs.Held.{HasRoom}
use Rattle.vm_frames.proofs.frames.make_frames.Given as goal

abbrev pub invariant-loop-i : goal.invariant-loop-i
invariant-loop-i l = record {
  many : length l.frames.items ≡ l._i;
  rooms : All (HasRoom l.slots l.entries) l.frames.items;
}
