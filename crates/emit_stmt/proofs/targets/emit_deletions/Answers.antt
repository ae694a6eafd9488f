use Rattle.std.proofs.Common.{arith}
use Rattle.emit_expr.proofs.Rows.{drop_item}
use Rattle.emit_stmt.proofs.SimpleRows.{row_begun, row_step, row_done}
use Rattle.emit_stmt.proofs.StoreForms.{delete_emits}
use Rattle.emit_stmt.proofs.targets.emit_deletions.Goals as goal

pub loop-target-init : goal.loop-target-init
loop-target-init c = row_begun _ _ _ _ _

pub loop-target-preserved : goal.loop-target-preserved
loop-target-preserved c =
    row_step c.args.targets.now c.loop-target.target-index c.target-item.result c.loop-target.invariant c.in_ok-emit_deletion.ensures.by
    (drop_item c.args.targets.now c.loop-target.target-index c.target-item.result (omega arith) c.target-item.is)

pub returns : goal.returns
returns c around = delete_emits around c.args.targets.now (row_done c.args.targets.now c.loop-target.target-index c.loop-target.invariant (omega arith))
