use Rattle.emit_stmt.proofs.Own.{own_is, are_children}
use Rattle.emit_stmt.proofs.laws.children_law.Goals as goal

pub returns : goal.returns
returns c = record { numbers = own_is; children = are_children }
