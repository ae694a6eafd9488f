use Rattle.std.proofs.Common.{sym, ◌∙◌}
use Rattle.py_expressions.specs.Input.{input_of}
use Rattle.py_expressions.specs.Reading.{atom, expr, whole_test}
use Rattle.py_expressions.proofs.Alone.{test_alone}
use Rattle.py_expressions.proofs.Apart.{reads_by}
use Rattle.py_expressions.proofs.grammar.Grammar.test.Goals as goal

pub returns-then-is_alone : goal.returns-then-is_alone
returns-then-is_alone g c =
    let i = input_of c.args.tokens.now in
    reads_by (whole_test (expr c.args.self.now.depth) i) (atom (expr c.args.self.now.depth) i) c.atom.result c.atom.new.tokens
    (test_alone (expr c.args.self.now.depth) i (sym c.is_alone.ensures ∙ c.if-is_alone.true)) c.atom.ensures
