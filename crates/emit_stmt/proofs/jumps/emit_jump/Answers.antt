use Rattle.std.proofs.Common.{◌≡◌, refl, sym, ap, ◌∙◌, arith}
use Rattle.emit_expr.specs.bc_scheme.Statements.{top_bit}
use Rattle.emit_expr.proofs.Forms.{on_ok}
use Rattle.emit_stmt.proofs.StmtForms.{as_entries, unwind_emits, many_emits}
use Rattle.emit_stmt.proofs.jumps.emit_jump.Goals as goal
use Rattle.emit_stmt.proofs.jumps.emit_jump.Goals.{then-iterator, else-iterator}

pub returns-then-entries-gt-MAX_ENTRIES : goal.returns-then-entries-gt-MAX_ENTRIES
returns-then-entries-gt-MAX_ENTRIES c s = many_emits _ _ s _ _ _ _ (omega arith) refl refl refl refl

pub returns-then-entries-eq0 : goal.returns-then-entries-eq0
returns-then-entries-eq0 c = on_ok c.put_jump.result c.put_jump.ensures (λ p s. as_entries (p s) (omega arith))

pub returns : goal.returns
returns c s =
    let top : c.if-iterator.top ≡ top_bit c.args.iterator = elim c.if-iterator.branch [
      | then-iterator w ↦ w.top-is ∙ ap top_bit (sym w.if-iterator.true)
      | else-iterator w ↦ w.top-is ∙ ap top_bit (sym w.if-iterator.false)
    ] in
    unwind_emits s c.args.entries c.args.iterator (λ none. omega arith) (omega arith) (omega (arith, top)) c.in_ok-put.ensures
