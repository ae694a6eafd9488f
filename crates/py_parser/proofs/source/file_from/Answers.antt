use Rattle.std.proofs.Common.{◌-◌, rules, arith}
use Rattle.std.proofs.lemmas.Grind.{common_steps}
use Rattle.py_expressions.specs.Input.{input_of}
use Rattle.py_expressions.proofs.Turns.{one_more, no_more}
use Rattle.py_parser.specs.Reading.{file_from}
use Rattle.py_parser.proofs.source.file_from.Goals as goal

pub returns-then-is_end : goal.returns-then-is_end
unfolding file_from
returns-then-is_end c =
    let e = one_more (λ n. file_from c.args.depth n c.loop-turn.found (input_of c.loop-turn.tokens)) _ c.loop-turn._turn c.loop-turn-test.true c.loop-turn.invariant in
    first_of (search rules, grind (arith, common_steps))

pub returns-in_err-some : goal.returns-in_err-some
unfolding file_from
returns-in_err-some c =
    let e = one_more (λ n. file_from c.args.depth n c.loop-turn.found (input_of c.loop-turn.tokens)) _ c.loop-turn._turn c.loop-turn-test.true c.loop-turn.invariant in
    first_of (search rules, grind (arith, common_steps))

pub loop-turn-preserved : goal.loop-turn-preserved
unfolding file_from
loop-turn-preserved c =
    let e = one_more (λ n. file_from c.args.depth n c.loop-turn.found (input_of c.loop-turn.tokens)) _ c.loop-turn._turn c.loop-turn-test.true c.loop-turn.invariant in
    first_of (search rules, grind (arith, common_steps))

pub returns : goal.returns
unfolding file_from
returns c =
    let e = no_more (λ n. file_from c.args.depth n c.loop-turn.found (input_of c.loop-turn.tokens)) _ c.loop-turn._turn c.loop-turn-test.false c.loop-turn.invariant in
    first_of (search rules, grind (arith, common_steps))
