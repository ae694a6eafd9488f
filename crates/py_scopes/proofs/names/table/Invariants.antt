use Rattle.std.proofs.Common.{drop}
use Rattle.py_scopes.proofs.Walks.{Walked}
use Rattle.py_scopes.proofs.names.table.Given as goal

abbrev pub invariant-loop-event : goal.invariant-loop-event
invariant-loop-event l = Walked l.tells l.events (drop l.event-index l.events) l.around.items l.sets.items
