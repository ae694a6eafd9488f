use Rattle.std.proofs.Common.{◌-◌, rules, arith}
use Rattle.std.proofs.lemmas.Grind.{common_steps}
use Rattle.py_expressions.specs.Input.{input_of}
use Rattle.py_expressions.proofs.Turns.{one_more, no_more}
use Rattle.py_parser.specs.Reading.{stmt, block_from, whole_block}
use Rattle.py_parser.proofs.stmt.Blocks.block_from.Goals as goal

pub loop-turn-init : goal.loop-turn-init
unfolding whole_block
loop-turn-init g c = first_of (search rules, grind (arith, common_steps))

pub returns-in_err-some : goal.returns-in_err-some
unfolding block_from
returns-in_err-some g c =
    let e = one_more (λ n. block_from (stmt c.args.self.now.depth) n c.loop-turn.found (input_of c.loop-turn.tokens)) _ c.loop-turn._turn c.loop-turn-test.true c.loop-turn.invariant in
    first_of (search rules, grind (arith, common_steps))

pub returns-then-eat : goal.returns-then-eat
unfolding block_from
returns-then-eat g c =
    let e = one_more (λ n. block_from (stmt c.args.self.now.depth) n c.loop-turn.found (input_of c.loop-turn.tokens)) _ c.loop-turn._turn c.loop-turn-test.true c.loop-turn.invariant in
    first_of (search rules, grind (arith, common_steps))

pub loop-turn-preserved : goal.loop-turn-preserved
unfolding block_from
loop-turn-preserved g c =
    let e = one_more (λ n. block_from (stmt c.args.self.now.depth) n c.loop-turn.found (input_of c.loop-turn.tokens)) _ c.loop-turn._turn c.loop-turn-test.true c.loop-turn.invariant in
    first_of (search rules, grind (arith, common_steps))

pub returns : goal.returns
unfolding block_from
returns g c =
    let e = no_more (λ n. block_from (stmt c.args.self.now.depth) n c.loop-turn.found (input_of c.loop-turn.tokens)) _ c.loop-turn._turn c.loop-turn-test.false c.loop-turn.invariant in
    first_of (search rules, grind (arith, common_steps))
