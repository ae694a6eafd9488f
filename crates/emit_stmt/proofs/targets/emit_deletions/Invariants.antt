use Rattle.std.proofs.Common.{drop}
use Rattle.emit_stmt.proofs.SimpleRows.{Builds}
use Rattle.emit_stmt.proofs.StoreForms.{gone_crowds, Gone}
use Rattle.emit_stmt.proofs.targets.emit_deletions.Given as goal

abbrev pub invariant-loop-target : goal.invariant-loop-target
invariant-loop-target l = Builds gone_crowds (Gone l.line) l.initial.draft l.draft l.scope (drop l.target-index l.targets) l.targets
