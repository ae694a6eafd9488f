use Rattle.std.proofs.Common.{◌≡◌, ◌++◌, drop}
use Rattle.std.specs.List.{flat_map}
use Rattle.snap_saving.specs.Steps.{found, registered_bytes}
use Rattle.snap_saving.proofs.saving.put_modules.Given as goal

-- what is added and what is still to be added
abbrev pub invariant-loop-entry : goal.invariant-loop-entry
invariant-loop-entry l = l.out.items ++ flat_map (registered_bytes (found l.places)) (drop l.entry-index (l.modules)) ≡ l.initial.out.items ++ flat_map (registered_bytes (found l.places)) (l.modules)
