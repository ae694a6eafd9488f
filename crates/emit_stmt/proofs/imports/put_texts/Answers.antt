use Rattle.std.proofs.Common.{arith}
use Rattle.emit_expr.proofs.Rows.{drop_item}
use Rattle.emit_stmt.proofs.SimpleRows.{row_begun, row_step, row_done}
use Rattle.emit_stmt.proofs.ImportForms.{texts_emit, text_emits}
use Rattle.emit_stmt.proofs.imports.put_texts.Goals as goal

pub loop-alias-init : goal.loop-alias-init
loop-alias-init c s = row_begun _ _ _ _ _

pub loop-alias-preserved : goal.loop-alias-preserved
loop-alias-preserved c s =
    row_step c.args.names.now c.loop-alias.alias-index c.alias-item.result (c.loop-alias.invariant s) (text_emits s c.alias-item.result c.bytes.ensures c.in_ok-put_named.ensures)
    (drop_item c.args.names.now c.loop-alias.alias-index c.alias-item.result (omega arith) c.alias-item.is)

pub returns : goal.returns
returns c s = texts_emit c.args.names.now (row_done c.args.names.now c.loop-alias.alias-index (c.loop-alias.invariant s) (omega arith))
