use Rattle.emit_stmt.proofs.Tries.{gone_emits}
use Rattle.emit_stmt.proofs.steps.put_gone.Goals as goal

pub returns : goal.returns
returns c = gone_emits c.args.name.now c.in_ok-store.ensures c.in_ok-delete.ensures c.in_ok-put_behind.ensures c.in_ok-put_behind-2.ensures c.in_ok-put_behind-3.ensures c.in_ok-put_behind-4.ensures
