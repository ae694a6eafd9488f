use Rattle.std.proofs.Common.{sym, ◌∙◌}
use Rattle.py_tokens.specs.declared.word.Word.TheVariants as word
use Rattle.py_tree.specs.declared.expr.Expr.TheVariants as ex
use Rattle.py_expressions.specs.Input.{input_of}
use Rattle.py_expressions.specs.Reading.{expr, not_test, and_test}
use Rattle.py_expressions.proofs.Apart.{operand_alone}
use Rattle.py_expressions.proofs.grammar.Grammar.and_test.Goals as goal

pub returns-then-not-sees : goal.returns-then-not-sees
unfolding and_test
returns-then-not-sees g c =
    operand_alone (not_test (expr c.args.self.now.depth)) word.And ex.And (input_of c.args.tokens.now) (input_of c.not_test.new.tokens) c.in_ok-first.first c.in_ok-first.ensures
    (sym c.sees.ensures ∙ c.if-not-sees.true)
