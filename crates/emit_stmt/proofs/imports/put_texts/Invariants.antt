use Rattle.std.proofs.Common.{false, drop}
use Rattle.emit_expr.specs.emit_draft.declared.scope.Scope.{Scope}
use Rattle.emit_stmt.proofs.SimpleRows.{Builds}
use Rattle.emit_stmt.proofs.ImportForms.{Text}
use Rattle.emit_stmt.proofs.imports.put_texts.Given as goal

abbrev pub invariant-loop-alias : goal.invariant-loop-alias
invariant-loop-alias l = (s : Scope) → Builds (λ a. false) (Text l.line) l.initial.draft l.draft s (drop l.alias-index l.names) l.names
