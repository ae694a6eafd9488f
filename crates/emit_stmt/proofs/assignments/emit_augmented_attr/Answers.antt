use Rattle.emit_stmt.proofs.StmtForms.{aug_attr_emits}
use Rattle.emit_stmt.proofs.assignments.emit_augmented_attr.Goals as goal

pub returns : goal.returns
returns c around =
    aug_attr_emits around c.in_ok-emit_expr.ensures c.in_ok-put_plain.ensures c.in_ok-put_named.ensures c.in_ok-emit_expr-2.ensures c.in_ok-put_in_place.ensures c.in_ok-put_plain-2.ensures c.in_ok-put_named-2.ensures
