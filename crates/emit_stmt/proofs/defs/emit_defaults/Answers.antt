use Rattle.std.proofs.Common.{arith}
use Rattle.emit_expr.proofs.Rows.{drop_item}
use Rattle.emit_stmt.proofs.SimpleRows.{row_begun, row_step, row_done}
use Rattle.emit_stmt.proofs.DefForms.{defaults_emit}
use Rattle.emit_stmt.proofs.defs.emit_defaults.Goals as goal

pub loop-param-init : goal.loop-param-init
loop-param-init c = row_begun _ _ _ _ _

pub loop-param-preserved : goal.loop-param-preserved
loop-param-preserved c =
    row_step c.args.params.now c.loop-param.param-index c.param-item.result c.loop-param.invariant c.in_ok-emit_default.ensures.by
    (drop_item c.args.params.now c.loop-param.param-index c.param-item.result (omega arith) c.param-item.is)

pub returns : goal.returns
returns c = defaults_emit c.args.params.now (row_done c.args.params.now c.loop-param.param-index c.loop-param.invariant (omega arith))
