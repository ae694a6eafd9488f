use Rattle.emit_stmt.proofs.DefForms.{def_emits}
use Rattle.emit_stmt.proofs.defs.emit_def.Goals as goal

pub returns : goal.returns
returns c number = def_emits number c.in_ok-emit_making.ensures c.in_ok-put_store.ensures
