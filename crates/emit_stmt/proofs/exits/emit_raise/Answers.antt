use Rattle.std.proofs.Common.{ap}
use Rattle.emit_expr.specs.py_meaning.Tree.{Reraise, Raise}
use Rattle.emit_expr.specs.py_meaning.Plain.{on_option}
use Rattle.emit_stmt.proofs.StmtForms.{as_stmt, raise_emits, reraise_emits}
use Rattle.emit_stmt.proofs.exits.emit_raise.Goals as goal

pub returns-in_ok-put_plain-in-None : goal.returns-in_ok-put_plain-in-None
returns-in_ok-put_plain-in-None c around = as_stmt (reraise_emits c.args.scope.now around c.in_ok-put_plain-in-None.ensures) (ap (on_option Reraise Raise) c.in-None.is)

pub returns-in_ok-put_plain-in-Some : goal.returns-in_ok-put_plain-in-Some
returns-in_ok-put_plain-in-Some c around = as_stmt (raise_emits around c.in_ok-emit_expr-in-Some.ensures c.in_ok-put_plain-in-Some.ensures) (ap (on_option Reraise Raise) c.in-Some.is)
