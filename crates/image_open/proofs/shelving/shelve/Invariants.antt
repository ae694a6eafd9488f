use Rattle.std.proofs.Common.{◌≡◌, length}
use Rattle.std.specs.Vec.Iter.{into_iter_items, into_iter_len}
use Rattle.image_open.proofs.Shelves.{Shelved}
use Rattle.image_open.proofs.shelving.shelve.Given as goal

abbrev pub invariant-loop-entry : goal.invariant-loop-entry
invariant-loop-entry l = Shelved l.fn.entries (into_iter_items l.entry-iterator) l.lib × (into_iter_len l.entry-iterator ≡ length (into_iter_items l.entry-iterator))
