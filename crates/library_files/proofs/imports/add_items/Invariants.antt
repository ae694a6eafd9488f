use Rattle.library_files.proofs.Walks.{Walked}
use Rattle.library_files.proofs.imports.add_items.Given as goal

abbrev pub invariant-loop-item : goal.invariant-loop-item
invariant-loop-item l = Walked l.module l.items l.fn.names.items l.item-index l.names.items
