use Rattle.std.proofs.Common.{rules, arith}
use Rattle.std.proofs.lemmas.Grind.{common_steps}
use Rattle.py_expressions.specs.Input.{input_of}
use Rattle.py_expressions.proofs.Turns.{one_more, no_more}
use Rattle.py_statements.specs.Reading.{all_dotted, dotted_from}
use Rattle.py_statements.proofs.names.all_dotted.Goals as goal

pub loop-turn-init : goal.loop-turn-init
unfolding all_dotted
loop-turn-init c = first_of (search rules, grind (arith, common_steps))

pub returns-then-not-eat : goal.returns-then-not-eat
unfolding dotted_from
returns-then-not-eat c =
    let e = one_more (λ n. dotted_from n c.loop-turn.bytes.items (input_of c.loop-turn.tokens)) _ c.loop-turn._turn c.loop-turn-test.true c.loop-turn.invariant in
    first_of (search rules, grind (arith, common_steps))

pub returns-in_err-part : goal.returns-in_err-part
unfolding dotted_from
returns-in_err-part c =
    let e = one_more (λ n. dotted_from n c.loop-turn.bytes.items (input_of c.loop-turn.tokens)) _ c.loop-turn._turn c.loop-turn-test.true c.loop-turn.invariant in
    first_of (search rules, grind (arith, common_steps))

pub loop-turn-preserved : goal.loop-turn-preserved
unfolding dotted_from
loop-turn-preserved c =
    let e = one_more (λ n. dotted_from n c.loop-turn.bytes.items (input_of c.loop-turn.tokens)) _ c.loop-turn._turn c.loop-turn-test.true c.loop-turn.invariant in
    first_of (search rules, grind (arith, common_steps))

pub returns : goal.returns
unfolding dotted_from
returns c =
    let e = no_more (λ n. dotted_from n c.loop-turn.bytes.items (input_of c.loop-turn.tokens)) _ c.loop-turn._turn c.loop-turn-test.false c.loop-turn.invariant in
    first_of (search rules, grind (arith, common_steps))
