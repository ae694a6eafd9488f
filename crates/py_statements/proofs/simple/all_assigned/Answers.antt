use Rattle.std.proofs.Common.{rules, arith}
use Rattle.std.proofs.lemmas.Grind.{common_steps}
use Rattle.py_expressions.specs.Input.{input_of}
use Rattle.py_expressions.proofs.Turns.{one_more, no_more}
use Rattle.py_statements.specs.Reading.{all_assigned, assigned}
use Rattle.py_statements.proofs.simple.all_assigned.Goals as goal

pub loop-turn-init : goal.loop-turn-init
unfolding all_assigned
loop-turn-init c = first_of (search rules, grind (arith, common_steps))

pub returns-then-not-eat : goal.returns-then-not-eat
unfolding assigned
returns-then-not-eat c =
    let e = one_more (λ n. assigned c.args.depth n c.loop-turn.targets c.loop-turn.value (input_of c.loop-turn.tokens)) _ c.loop-turn._turn c.loop-turn-test.true c.loop-turn.invariant in
    first_of (search rules, grind (arith, common_steps))

pub returns-in_err-assigned_to : goal.returns-in_err-assigned_to
unfolding assigned
returns-in_err-assigned_to c =
    let e = one_more (λ n. assigned c.args.depth n c.loop-turn.targets c.loop-turn.value (input_of c.loop-turn.tokens)) _ c.loop-turn._turn c.loop-turn-test.true c.loop-turn.invariant in
    first_of (search rules, grind (arith, common_steps))

pub returns-in_err-value : goal.returns-in_err-value
unfolding assigned
returns-in_err-value c =
    let e = one_more (λ n. assigned c.args.depth n c.loop-turn.targets c.loop-turn.value (input_of c.loop-turn.tokens)) _ c.loop-turn._turn c.loop-turn-test.true c.loop-turn.invariant in
    first_of (search rules, grind (arith, common_steps))

pub loop-turn-preserved : goal.loop-turn-preserved
unfolding assigned
loop-turn-preserved c =
    let e = one_more (λ n. assigned c.args.depth n c.loop-turn.targets c.loop-turn.value (input_of c.loop-turn.tokens)) _ c.loop-turn._turn c.loop-turn-test.true c.loop-turn.invariant in
    first_of (search rules, grind (arith, common_steps))

pub returns : goal.returns
unfolding assigned
returns c =
    let e = no_more (λ n. assigned c.args.depth n c.loop-turn.targets c.loop-turn.value (input_of c.loop-turn.tokens)) _ c.loop-turn._turn c.loop-turn-test.false c.loop-turn.invariant in
    first_of (search rules, grind (arith, common_steps))
