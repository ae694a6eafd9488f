use Rattle.std.proofs.Common.{◌-◌, true, rules, arith}
use Rattle.std.proofs.lemmas.Grind.{common_steps}
use Rattle.py_expressions.specs.Input.{input_of}
use Rattle.py_expressions.proofs.Turns.{one_more, no_more}
use Rattle.py_statements.specs.Reading.{series, series_from}
use Rattle.py_parser.specs.Reading.{parameter}
use Rattle.py_parser.proofs.header.some_parameters.Goals as goal

pub loop-turn-init : goal.loop-turn-init
unfolding series
loop-turn-init c = first_of (search rules, grind (arith, common_steps))

pub returns-in_err-parameter : goal.returns-in_err-parameter
unfolding series_from
returns-in_err-parameter c =
    let e = one_more (λ n. series_from parameter true n c.loop-turn.found (input_of c.loop-turn.tokens)) _ c.loop-turn._turn c.loop-turn-test.true c.loop-turn.invariant in
    first_of (search rules, grind (arith, common_steps))

pub returns-then-not-eat : goal.returns-then-not-eat
unfolding series_from
returns-then-not-eat c =
    let e = one_more (λ n. series_from parameter true n c.loop-turn.found (input_of c.loop-turn.tokens)) _ c.loop-turn._turn c.loop-turn-test.true c.loop-turn.invariant in
    first_of (search rules, grind (arith, common_steps))

pub returns-then-sees : goal.returns-then-sees
unfolding series_from
returns-then-sees c =
    let e = one_more (λ n. series_from parameter true n c.loop-turn.found (input_of c.loop-turn.tokens)) _ c.loop-turn._turn c.loop-turn-test.true c.loop-turn.invariant in
    first_of (search rules, grind (arith, common_steps))

pub loop-turn-preserved : goal.loop-turn-preserved
unfolding series_from
loop-turn-preserved c =
    let e = one_more (λ n. series_from parameter true n c.loop-turn.found (input_of c.loop-turn.tokens)) _ c.loop-turn._turn c.loop-turn-test.true c.loop-turn.invariant in
    first_of (search rules, grind (arith, common_steps))

pub returns : goal.returns
unfolding series_from
returns c =
    let e = no_more (λ n. series_from parameter true n c.loop-turn.found (input_of c.loop-turn.tokens)) _ c.loop-turn._turn c.loop-turn-test.false c.loop-turn.invariant in
    first_of (search rules, grind (arith, common_steps))
