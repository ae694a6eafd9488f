use Rattle.std.proofs.Common.{rules, arith}
use Rattle.std.proofs.lemmas.Grind.{common_steps}
use Rattle.py_expressions.specs.Input.{input_of}
use Rattle.py_expressions.proofs.Turns.{one_more, no_more}
use Rattle.py_statements.specs.Reading.{one_line, statements}
use Rattle.py_statements.proofs.line.one_line.Goals as goal

pub loop-turn-init : goal.loop-turn-init
unfolding one_line
loop-turn-init c = first_of (search rules, grind (arith, common_steps))

pub returns-in_err-statement : goal.returns-in_err-statement
unfolding statements
returns-in_err-statement c =
    let e = one_more (λ n. statements n c.loop-turn.found (input_of c.loop-turn.tokens)) _ c.loop-turn._turn c.loop-turn-test.true c.loop-turn.invariant in
    first_of (search rules, grind (arith, common_steps))

pub returns-then-eat : goal.returns-then-eat
unfolding statements
returns-then-eat c =
    let e = one_more (λ n. statements n c.loop-turn.found (input_of c.loop-turn.tokens)) _ c.loop-turn._turn c.loop-turn-test.true c.loop-turn.invariant in
    first_of (search rules, grind (arith, common_steps))

pub returns-then-not-goes_on : goal.returns-then-not-goes_on
unfolding statements
returns-then-not-goes_on c =
    let e = one_more (λ n. statements n c.loop-turn.found (input_of c.loop-turn.tokens)) _ c.loop-turn._turn c.loop-turn-test.true c.loop-turn.invariant in
    first_of (search rules, grind (arith, common_steps))

pub loop-turn-preserved : goal.loop-turn-preserved
unfolding statements
loop-turn-preserved c =
    let e = one_more (λ n. statements n c.loop-turn.found (input_of c.loop-turn.tokens)) _ c.loop-turn._turn c.loop-turn-test.true c.loop-turn.invariant in
    first_of (search rules, grind (arith, common_steps))

pub returns : goal.returns
unfolding statements
returns c =
    let e = no_more (λ n. statements n c.loop-turn.found (input_of c.loop-turn.tokens)) _ c.loop-turn._turn c.loop-turn-test.false c.loop-turn.invariant in
    first_of (search rules, grind (arith, common_steps))
