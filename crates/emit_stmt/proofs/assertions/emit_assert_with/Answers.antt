use Rattle.std.proofs.Common.{arith}
use Rattle.emit_expr.specs.py_meaning.Plain.{plain_expr}
use Rattle.emit_stmt.proofs.StmtForms.{no_assert_with_emits, assert_with_free, assert_with_emits}
use Rattle.emit_stmt.proofs.assertions.emit_assert_with.Goals as goal

pub returns-then-draft-gt0 : goal.returns-then-draft-gt0
returns-then-draft-gt0 c around = no_assert_with_emits c.args.draft.now c.args.scope.now around c.args.line (plain_expr c.args.test.now) (plain_expr c.args.message.now) (omega arith)

pub bind-requires : goal.bind-requires
bind-requires c = assert_with_free c.in_ok-end.ensures c.in_ok-put.ensures c.in_ok-put_named.ensures c.in_ok-emit_expr-2.ensures c.in_ok-put-2.ensures c.in_ok-put_plain.ensures

pub returns : goal.returns
returns c around =
    assert_with_emits around (omega arith) c.in_ok-emit_expr.ensures c.in_ok-end.ensures c.in_ok-put.ensures c.in_ok-put_named.ensures c.in_ok-emit_expr-2.ensures c.in_ok-put-2.ensures c.in_ok-put_plain.ensures c.bind.ensures
