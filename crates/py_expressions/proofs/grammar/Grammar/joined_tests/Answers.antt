use Rattle.std.proofs.Common.{ℕ, ◌-◌, sym, ap, ◌∙◌, arith}
use Rattle.py_expressions.specs.declared.grammar.Rule.TheVariants as rule
use Rattle.py_expressions.specs.Apart.{first_apart}
use Rattle.py_expressions.specs.Input.{input_of}
use Rattle.py_expressions.specs.Reading.{expr, tests}
use Rattle.py_expressions.proofs.Apart.{apart, none_ahead, reads_by, refused_by}
use Rattle.py_expressions.proofs.grammar.Grammar.joined_tests.Goals as goal

pub returns-then-turns-eq0 : goal.returns-then-turns-eq0
unfolding tests
returns-then-turns-eq0 g c =
    refused_by (tests c.args.self.now.depth (input_of c.args.tokens.now)) c.refuse.result c.args.tokens.now.front c.args.tokens.now
    (none_ahead (expr c.args.self.now.depth rule.Test) (input_of c.args.tokens.now) (omega arith)) c.refuse.ensures

pub returns : goal.returns
unfolding tests
returns g c =
    let i = input_of c.args.tokens.now in
    let inner = expr c.args.self.now.depth rule.Test in
    reads_by (tests c.args.self.now.depth i) (first_apart inner (c.left-turns.result - 1) i) c.first_apart.result c.first_apart.new.tokens
    (apart inner i (omega arith) ∙ ap (λ (n : ℕ). first_apart inner (n - 1) i) (sym c.left-turns.ensures)) c.first_apart.ensures
