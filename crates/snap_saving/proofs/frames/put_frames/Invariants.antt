use Rattle.std.proofs.Common.{◌≡◌, ◌++◌, drop}
use Rattle.std.specs.List.{flat_map}
use Rattle.std.proofs.Common.{reverse}
use Rattle.snap_saving.specs.Steps.{call_bytes, found}
use Rattle.snap_saving.proofs.frames.put_frames.Given as goal

-- what is added and what is still to be added
abbrev pub invariant-loop-i : goal.invariant-loop-i
invariant-loop-i l = l.out.items ++ flat_map (call_bytes l.library (found l.places)) (drop l.i (reverse l.frames.calls)) ≡ l.initial.out.items ++ flat_map (call_bytes l.library (found l.places)) (reverse l.frames.calls)
