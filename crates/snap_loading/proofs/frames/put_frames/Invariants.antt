use Rattle.std.proofs.Common.{◌≡◌, take, reverse}
use Rattle.snap_states.specs.Decoded.{AreCallsOf}
use Rattle.snap_loading.proofs.frames.put_frames.Given as goal

abbrev pub invariant-loop-at : goal.invariant-loop-at
invariant-loop-at l = record {
  calls : AreCallsOf l.lookup.library.now l.lookup.snapshot.now (reverse (take l.at l.parts)) l.frames.calls;
  rooms : l.frames ≡ record l.initial.frames { calls = l.frames.calls };
}
