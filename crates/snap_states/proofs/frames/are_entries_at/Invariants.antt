use Rattle.std.proofs.Common.{◌↔◌, drop, reverse}
use Rattle.snap_states.specs.States.{AreEntriesAt}
use Rattle.snap_states.proofs.frames.are_entries_at.Given as goal

abbrev pub invariant-loop-i : goal.invariant-loop-i
invariant-loop-i l = AreEntriesAt l.offsets (reverse l.parts) l.entries ↔ AreEntriesAt l.offsets (drop l.i (reverse l.parts)) (drop l.i l.entries)
