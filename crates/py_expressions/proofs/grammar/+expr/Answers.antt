use Rattle.std.proofs.Common.{arith, rules}
use Rattle.std.proofs.lemmas.Grind.{common_steps}
use Rattle.py_expressions.specs.Input.{input_of}
use Rattle.py_expressions.specs.Reading.{expr}
use Rattle.py_expressions.proofs.Turns.{deeper}
use Rattle.py_expressions.proofs.grammar.+expr.Goals as goal

pub returns-then-depth-eq0 : goal.returns-then-depth-eq0
unfolding expr
returns-then-depth-eq0 t c = first_of (search rules, grind (arith, common_steps))

pub returns : goal.returns
unfolding expr
returns t c =
    let e = deeper (λ n. expr n c.args.rule (input_of c.args.tokens.now)) c.args.depth (omega arith) in
    first_of (search rules, grind (arith, common_steps))
