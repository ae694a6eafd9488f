use Rattle.std.proofs.Common.{ap}
use Rattle.emit_expr.specs.py_meaning.Tree.{ReturnNone, Return}
use Rattle.emit_expr.specs.py_meaning.Plain.{on_option}
use Rattle.emit_stmt.proofs.StmtForms.{as_stmt, return_emits, return_none_emits}
use Rattle.emit_stmt.proofs.exits.emit_return.Goals as goal

pub returns-in_ok-put_plain-in-None-2 : goal.returns-in_ok-put_plain-in-None-2
returns-in_ok-put_plain-in-None-2 c around = as_stmt (return_none_emits c.args.scope.now around c.in_ok-put_plain-in-None.ensures c.in_ok-put_plain-in-None-2.ensures) (ap (on_option ReturnNone Return) c.in-None.is)

pub returns-in_ok-put_plain-in-Some : goal.returns-in_ok-put_plain-in-Some
returns-in_ok-put_plain-in-Some c around = as_stmt (return_emits around c.in_ok-emit_expr-in-Some.ensures c.in_ok-put_plain-in-Some.ensures) (ap (on_option ReturnNone Return) c.in-Some.is)
