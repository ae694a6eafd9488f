use Rattle.std.proofs.Common.{drop}
use Rattle.emit_stmt.proofs.SimpleRows.{Builds}
use Rattle.emit_stmt.proofs.DefForms.{default_crowds, Default}
use Rattle.emit_stmt.proofs.defs.emit_defaults.Given as goal

abbrev pub invariant-loop-param : goal.invariant-loop-param
invariant-loop-param l = Builds default_crowds (Default l.line) l.initial.draft l.draft l.scope (drop l.param-index l.params) l.params
