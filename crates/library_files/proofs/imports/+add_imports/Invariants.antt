use Rattle.library_files.proofs.Walks.{Reached}
use Rattle.library_files.proofs.imports.+add_imports.Given as goal

abbrev pub invariant-loop-child : goal.invariant-loop-child
invariant-loop-child l = Reached l.module l.code l.fn.names.items l.names.items l.child-index
