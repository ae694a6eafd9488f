use Rattle.std.proofs.Common.{ap}
use Rattle.emit_expr.specs.py_meaning.Tree.{Assert, AssertWith}
use Rattle.emit_expr.specs.py_meaning.Plain.{plain_expr, on_option}
use Rattle.emit_expr.proofs.Forms.{on_ok}
use Rattle.emit_stmt.proofs.StmtForms.{as_stmt}
use Rattle.emit_stmt.proofs.assertions.emit_assertion.Goals as goal

pub returns-in-None : goal.returns-in-None
returns-in-None c =
    let test = plain_expr c.args.test.now in
    on_ok c.emit_assert.result c.emit_assert.ensures (λ p around. as_stmt (p around) (ap (on_option (Assert test) (AssertWith test)) c.in-None.is))

pub returns-in-Some : goal.returns-in-Some
returns-in-Some c =
    let test = plain_expr c.args.test.now in
    on_ok c.emit_assert_with.result c.emit_assert_with.ensures (λ p around. as_stmt (p around) (ap (on_option (Assert test) (AssertWith test)) c.in-Some.is))
