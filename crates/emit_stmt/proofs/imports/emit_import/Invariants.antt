use Rattle.std.proofs.Common.{false, drop}
use Rattle.emit_stmt.proofs.SimpleRows.{Builds}
use Rattle.emit_stmt.proofs.ImportForms.{Imported}
use Rattle.emit_stmt.proofs.imports.emit_import.Given as goal

abbrev pub invariant-loop-alias : goal.invariant-loop-alias
invariant-loop-alias l = Builds (λ a. false) (Imported l.line) l.initial.draft l.draft l.scope (drop l.alias-index l.names) l.names
