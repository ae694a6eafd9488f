use Rattle.std.proofs.Common.{Err, sym, ap, ◌∙◌}
use Rattle.std.proofs.lemmas.Result.{err_from_is_err_and}
use Rattle.py_tokens.specs.declared.operator.Op.TheVariants as op
use Rattle.py_tree.specs.declared.expr.Expr.{Expr}
use Rattle.py_tree.specs.declared.expr.Expr.TheVariants as ex
use Rattle.py_expressions.specs.declared.cursor.Mark.TheVariants as mark
use Rattle.py_expressions.specs.Apart.{closed_tests}
use Rattle.py_expressions.specs.Input.{Outcome, and_then, pure, input_of}
use Rattle.py_expressions.specs.Reading.{expr, index}
use Rattle.py_expressions.proofs.Steps.{done}
use Rattle.py_expressions.proofs.Apart.{index_by, passes, reads_by}
use Rattle.py_expressions.proofs.grammar.Grammar.index.Goals as goal

pub returns-in_err-found : goal.returns-in_err-found
returns-in_err-found g c =
    let p = err_from_is_err_and c.from_residual.result c.from_residual.ensures.1 in
    let i = input_of c.args.tokens.now in
    let closed = closed_tests c.args.self.now.depth (mark.Op op.CloseBracket) i in
    rw (p.1, p.2) (reads_by (index (expr c.args.self.now.depth) c.args.object i) (and_then closed (λ x. pure (ex.Index c.args.object x))) (Err c.in_err-found.field-0.0) c.closed_tests.new.tokens
    (index_by c.args.self.now.depth c.args.object i) (passes closed (λ x. pure (ex.Index c.args.object x)) c.in_err-found.field-0.0 c.closed_tests.new.tokens c.in_err-found.ensures))

pub returns : goal.returns
returns g c =
    index_by c.args.self.now.depth c.args.object (input_of c.args.tokens.now)
    ∙ (ap (λ (o : Outcome Expr). and_then o (λ x. pure (ex.Index c.args.object x))) c.in_ok-found.ensures
    ∙ ap (λ (x : Expr). done (ex.Index c.args.object x) (input_of c.closed_tests.new.tokens)) (sym c.in_ok-index.ensures))
