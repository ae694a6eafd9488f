use Rattle.emit_stmt.proofs.StmtForms.{aug_index_emits}
use Rattle.emit_stmt.proofs.assignments.emit_augmented_index.Goals as goal

pub returns : goal.returns
returns c around =
    aug_index_emits around c.in_ok-emit_expr.ensures c.in_ok-emit_expr-2.ensures c.in_ok-put_plain.ensures c.in_ok-put_plain-2.ensures c.in_ok-emit_expr-3.ensures c.in_ok-put_in_place.ensures c.in_ok-put_plain-3.ensures c.in_ok-put_plain-4.ensures
