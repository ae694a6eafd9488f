use Rattle.std.proofs.Common.{arith}
use Rattle.emit_expr.proofs.Rows.{drop_item}
use Rattle.emit_stmt.proofs.SimpleRows.{row_begun, row_step, row_done}
use Rattle.emit_stmt.proofs.ImportForms.{takens_emit, taken_emits}
use Rattle.emit_stmt.proofs.imports.emit_taken.Goals as goal

pub loop-alias-init : goal.loop-alias-init
loop-alias-init c = row_begun _ _ _ _ _

pub loop-alias-preserved : goal.loop-alias-preserved
loop-alias-preserved c =
    row_step c.args.names.now c.loop-alias.alias-index c.alias-item.result c.loop-alias.invariant (taken_emits c.alias-item.result c.bytes.ensures c.bound_name.ensures c.in_ok-put_named.ensures c.in_ok-put_store.ensures)
    (drop_item c.args.names.now c.loop-alias.alias-index c.alias-item.result (omega arith) c.alias-item.is)

pub returns : goal.returns
returns c = takens_emit c.args.names.now (row_done c.args.names.now c.loop-alias.alias-index c.loop-alias.invariant (omega arith))
