use Rattle.std.proofs.Common.{◌≡◌, ◌++◌, drop}
use Rattle.std.specs.List.{flat_map}
use Rattle.snap_saving.specs.Steps.{found, local_bytes}
use Rattle.snap_saving.proofs.frames.put_locals.Given as goal

-- what is added and what is still to be added
abbrev pub invariant-loop-local : goal.invariant-loop-local
invariant-loop-local l = l.out.items ++ flat_map (local_bytes l.library (found l.places)) (drop l.local-index (l.locals)) ≡ l.initial.out.items ++ flat_map (local_bytes l.library (found l.places)) (l.locals)
