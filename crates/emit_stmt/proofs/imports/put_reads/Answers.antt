use Rattle.std.proofs.Common.{get_or, arith}
use Rattle.emit_expr.proofs.emit_draft_lemmas.Emits.{put_emits}
use Rattle.emit_stmt.proofs.SimpleRows.{drop_at, row_begun, row_step, row_done}
use Rattle.emit_stmt.proofs.ImportForms.{reads_emit}
use Rattle.emit_stmt.proofs.imports.put_reads.Goals as goal

pub loop-name-init : goal.loop-name-init
loop-name-init c s = row_begun _ _ _ _ _

pub loop-name-preserved : goal.loop-name-preserved
loop-name-preserved c s =
    row_step c.args.names.now c.loop-name.name-index (get_or c.args.names.now c.loop-name.name-index _) (c.loop-name.invariant s) (put_emits _ _ s c.args.line _ c.in_ok-put_named.ensures)
    (drop_at c.args.names.now c.loop-name.name-index _ (omega arith))

pub returns : goal.returns
returns c s = reads_emit (λ r. r.now) c.args.names.now (row_done c.args.names.now c.loop-name.name-index (c.loop-name.invariant s) (omega arith))
