use Rattle.std.proofs.Common.{◌≡◌, ap, arith, ◌∙◌, sym, rules}
use Rattle.std.proofs.lemmas.Grind.{common_steps}
use Rattle.py_expressions.specs.Input.{input_of}
use Rattle.py_expressions.proofs.Turns.{deeper}
use Rattle.py_parser.specs.Reading.{stmt}
use Rattle.py_parser.proofs.stmt.+stmt.Goals as goal

pub returns-then-depth-eq0 : goal.returns-then-depth-eq0
unfolding stmt
returns-then-depth-eq0 t c =
    let none : c.args.depth ≡ 0 = omega arith in
    let e = ap (λ n. stmt n (input_of c.args.tokens.now)) none in
    first_of (search rules, grind (arith, common_steps))

pub returns : goal.returns
unfolding stmt
returns t c = rw (deeper (λ n. stmt n (input_of c.args.tokens.now)) c.args.depth (omega arith)) c.stmt_with.ensures
