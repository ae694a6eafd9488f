use Rattle.std.proofs.Common.{◌≡◌, map, take}
use Rattle.image_freeze.proofs.Same.{copied}
use Rattle.image_freeze.proofs.migrate.copy_entries.Given as goal

abbrev pub invariant-loop-entry : goal.invariant-loop-entry
invariant-loop-entry l = map copied l.copies.items ≡ take l.entry-index l.entries
