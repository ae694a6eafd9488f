use Rattle.std.proofs.Common.{drop}
use Rattle.emit_stmt.proofs.SimpleRows.{Builds}
use Rattle.emit_stmt.proofs.StoreForms.{store_crowds, Stored}
use Rattle.emit_stmt.proofs.targets.+targets.Given as goal

abbrev pub invariant-emit_each-loop-target : goal.invariant-emit_each-loop-target
invariant-emit_each-loop-target l = Builds store_crowds (Stored l.line) l.initial.draft l.draft l.scope (drop l.target-index l.targets) l.targets
