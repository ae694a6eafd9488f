use Rattle.emit_draft.specs.bc_scheme.Context.{loads}
use Rattle.emit_expr.proofs.Forms.{puts_name}
use Rattle.emit_expr.proofs.puts.put_load.Goals as goal

pub returns : goal.returns
returns c = puts_name (λ k. loads k c.args.name.now) c.in_ok-put.ensures c.in_ok-item.ensures
