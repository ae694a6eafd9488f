use Rattle.emit_stmt.proofs.Tries.{match_emits}
use Rattle.emit_stmt.proofs.steps.put_match.Goals as goal

pub returns : goal.returns
returns c = match_emits c.in_ok-put.ensures c.in_ok-emit_expr.ensures c.in_ok-put-2.ensures c.in_ok-put-3.ensures
