use Rattle.std.proofs.Common.{false, drop}
use Rattle.emit_expr.specs.emit_draft.declared.scope.Scope.{Scope}
use Rattle.emit_stmt.proofs.SimpleRows.{Builds}
use Rattle.emit_stmt.proofs.ImportForms.{Read}
use Rattle.emit_stmt.proofs.imports.put_reads.Given as goal

abbrev pub invariant-loop-name : goal.invariant-loop-name
invariant-loop-name l = (s : Scope) → Builds (λ r. false) (Read (λ r. r.now) l.line) l.initial.draft l.draft s (drop l.name-index l.names) l.names
