use Rattle.std.proofs.Common.{drop}
use Rattle.emit_stmt.proofs.SimpleRows.{Builds}
use Rattle.emit_stmt.proofs.StoreForms.{store_crowds, Doubled}
use Rattle.emit_stmt.proofs.assignments.emit_assignment.Given as goal

abbrev pub invariant-loop-target : goal.invariant-loop-target
invariant-loop-target l = Builds store_crowds (Doubled l.line) l.initial.draft l.draft l.scope (drop l.target-index l.front) l.front
