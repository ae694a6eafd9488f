use Rattle.std.proofs.Common.{rules, arith}
use Rattle.std.proofs.lemmas.Grind.{common_steps}
use Rattle.py_expressions.specs.Input.{input_of}
use Rattle.py_expressions.specs.Reading.{strings, all_strings}
use Rattle.py_expressions.proofs.Turns.{one_more, no_more}
use Rattle.py_expressions.proofs.atoms.strings.Goals as goal

pub loop-turn-init : goal.loop-turn-init
unfolding all_strings
loop-turn-init c = first_of (search rules, grind (arith, common_steps))

pub returns-in_default : goal.returns-in_default
unfolding strings
returns-in_default c =
    let e = one_more (λ n. strings n c.loop-turn.bytes.items (input_of c.loop-turn.tokens)) _ c.loop-turn._turn c.loop-turn-test.true c.loop-turn.invariant in
    first_of (search rules, grind (arith, common_steps))

pub loop-turn-preserved : goal.loop-turn-preserved
unfolding strings
loop-turn-preserved c =
    let e = one_more (λ n. strings n c.loop-turn.bytes.items (input_of c.loop-turn.tokens)) _ c.loop-turn._turn c.loop-turn-test.true c.loop-turn.invariant in
    first_of (search rules, grind (arith, common_steps))

pub returns : goal.returns
unfolding strings
returns c =
    let e = no_more (λ n. strings n c.loop-turn.bytes.items (input_of c.loop-turn.tokens)) _ c.loop-turn._turn c.loop-turn-test.false c.loop-turn.invariant in
    first_of (search rules, grind (arith, common_steps))
