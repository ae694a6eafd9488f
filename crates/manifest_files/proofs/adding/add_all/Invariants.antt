use Rattle.std.proofs.Common.{◌≡◌, drop, map}
use Rattle.manifest_files.specs.Entries.{said_entry, entries_after}
use Rattle.manifest_files.proofs.adding.add_all.Given as goal

abbrev pub invariant-loop-other : goal.invariant-loop-other
invariant-loop-other l =
    entries_after l.fn.entries.items (map (said_entry l.folder) l.others) ≡ entries_after l.entries.items (map (said_entry l.folder) (drop l.other-index l.others))
