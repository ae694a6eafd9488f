use Rattle.std.proofs.Common.{◌≡◌, true, false, List, sym, ap, ◌∙◌}
use Rattle.py_tokens.specs.declared.operator.Op.TheVariants as op
use Rattle.py_tree.specs.declared.expr.Expr.{Expr}
use Rattle.py_expressions.specs.declared.cursor.Mark.TheVariants as mark
use Rattle.py_expressions.specs.Apart.{closed_tests}
use Rattle.py_expressions.specs.Input.{closed, kind, input_of}
use Rattle.py_expressions.specs.Reading.{begins_test, expr, round, tuple_of}
use Rattle.py_expressions.proofs.Apart.{reads_by, round_some, round_none}
use Rattle.py_expressions.proofs.grammar.Grammar.round.Goals as goal

pub returns-then-begins_test : goal.returns-then-begins_test
returns-then-begins_test g c =
    let i = input_of c.args.tokens.now in
    let begins : begins_test (kind (input_of c.args.tokens.now)) ≡ true = ap begins_test (sym c.peek.ensures) ∙ (sym c.begins_test.ensures ∙ c.if-begins_test.true) in
    reads_by (round (expr c.args.self.now.depth) i) (closed_tests c.args.self.now.depth (mark.Op op.CloseParen) i) c.closed_tests.result c.closed_tests.new.tokens
    (round_some c.args.self.now.depth i begins) c.closed_tests.ensures

pub returns-else-begins_test : goal.returns-else-begins_test
returns-else-begins_test g c =
    let i = input_of c.args.tokens.now in
    let begins : begins_test (kind (input_of c.args.tokens.now)) ≡ false = ap begins_test (sym c.peek.ensures) ∙ (sym c.begins_test.ensures ∙ c.if-begins_test.false) in
    reads_by (round (expr c.args.self.now.depth) i) (closed (mark.Op op.CloseParen) c.tuple_of-empty.result i) c.closed.result c.closed.new.self
    (round_none c.args.self.now.depth i begins
    ∙ ap (λ (x : Expr). closed (mark.Op op.CloseParen) x i) (sym (c.tuple_of-empty.ensures ∙ ap (λ (found : List Expr). tuple_of found false) c.new.ensures))) c.closed.ensures
