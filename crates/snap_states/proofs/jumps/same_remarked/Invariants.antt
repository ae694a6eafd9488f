use Rattle.std.proofs.Common.{◌≡◌, drop, map}
use Rattle.bc_shapes.specs.Shape.{same_entries}
use Rattle.bc_flow.specs.Machine.{remark}
use Rattle.snap_states.proofs.jumps.same_remarked.Given as goal

abbrev pub invariant-loop-i : goal.invariant-loop-i
invariant-loop-i l = same_entries l.found (map (remark l.position) l.entries) ≡ same_entries (drop l.i l.found) (map (remark l.position) (drop l.i l.entries))
