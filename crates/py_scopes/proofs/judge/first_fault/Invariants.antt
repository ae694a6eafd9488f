use Rattle.std.proofs.Common.{drop}
use Rattle.py_scopes.proofs.Judging.{Judged}
use Rattle.py_scopes.proofs.judge.first_fault.Given as goal

abbrev pub invariant-loop-event : goal.invariant-loop-event
invariant-loop-event l = Judged l.tells l.events (drop l.event-index l.events) l.around.items l.seen.items
