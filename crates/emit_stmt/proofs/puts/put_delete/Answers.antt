use Rattle.emit_expr.specs.bc_scheme.Context.{deletes}
use Rattle.emit_expr.proofs.Forms.{puts_name}
use Rattle.emit_stmt.proofs.puts.put_delete.Goals as goal

pub returns : goal.returns
returns c = puts_name (λ k. deletes k c.args.name.now) c.in_ok-put.ensures c.in_ok-item.ensures
