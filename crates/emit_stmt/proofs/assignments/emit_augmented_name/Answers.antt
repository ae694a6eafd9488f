use Rattle.emit_stmt.proofs.StmtForms.{aug_name_emits}
use Rattle.emit_stmt.proofs.assignments.emit_augmented_name.Goals as goal

pub returns : goal.returns
returns c around = aug_name_emits around c.in_ok-put_load.ensures c.in_ok-emit_expr.ensures c.in_ok-put_in_place.ensures c.in_ok-put_store.ensures
