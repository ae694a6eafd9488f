use Rattle.std.proofs.Common.{◌≡◌, ◌++◌, drop}
use Rattle.std.specs.List.{flat_map}
use Rattle.snap_saving.specs.Steps.{entry_bytes, found}
use Rattle.snap_saving.proofs.frames.put_entries.Given as goal

-- what is added and what is still to be added
abbrev pub invariant-loop-entry : goal.invariant-loop-entry
invariant-loop-entry l = l.out.items ++ flat_map (entry_bytes (found l.places) l.at) (drop l.entry-index (l.entries)) ≡ l.initial.out.items ++ flat_map (entry_bytes (found l.places) l.at) (l.entries)
