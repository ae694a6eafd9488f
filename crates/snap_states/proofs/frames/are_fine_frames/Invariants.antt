use Rattle.std.proofs.Common.{◌↔◌, None, drop, reverse}
use Rattle.std.specs.Prelude.{option_copied}
use Rattle.snap_states.specs.States.{AreFineFrames}
use Rattle.snap_states.proofs.frames.are_fine_frames.Given as goal

abbrev pub invariant-loop-i : goal.invariant-loop-i
invariant-loop-i l =
    AreFineFrames l.known.library.now l.known.snapshot.now None (reverse l.frames)
    ↔ AreFineFrames l.known.library.now l.known.snapshot.now (option_copied l.above) (drop l.i (reverse l.frames))
