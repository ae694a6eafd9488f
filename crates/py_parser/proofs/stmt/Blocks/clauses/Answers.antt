use Rattle.std.proofs.Common.{◌-◌, rules, arith}
use Rattle.std.proofs.lemmas.Grind.{common_steps}
use Rattle.py_expressions.specs.Input.{input_of}
use Rattle.py_expressions.proofs.Turns.{one_more, no_more}
use Rattle.py_parser.specs.Reading.{stmt, clauses, all_clauses}
use Rattle.py_parser.proofs.stmt.Blocks.clauses.Goals as goal

pub loop-turn-init : goal.loop-turn-init
unfolding all_clauses
loop-turn-init g c = first_of (search rules, grind (arith, common_steps))

pub returns-then-not-goes_on : goal.returns-then-not-goes_on
unfolding clauses
returns-then-not-goes_on g c =
    let e = one_more (λ n. clauses (stmt c.args.self.now.depth) n c.loop-turn.stage c.loop-turn.parts (input_of c.loop-turn.tokens)) _ c.loop-turn._turn c.loop-turn-test.true c.loop-turn.invariant in
    first_of (search rules, grind (arith, common_steps))

pub returns-in_err-next : goal.returns-in_err-next
unfolding clauses
returns-in_err-next g c =
    let e = one_more (λ n. clauses (stmt c.args.self.now.depth) n c.loop-turn.stage c.loop-turn.parts (input_of c.loop-turn.tokens)) _ c.loop-turn._turn c.loop-turn-test.true c.loop-turn.invariant in
    first_of (search rules, grind (arith, common_steps))

pub loop-turn-preserved : goal.loop-turn-preserved
unfolding clauses
loop-turn-preserved g c =
    let e = one_more (λ n. clauses (stmt c.args.self.now.depth) n c.loop-turn.stage c.loop-turn.parts (input_of c.loop-turn.tokens)) _ c.loop-turn._turn c.loop-turn-test.true c.loop-turn.invariant in
    first_of (search rules, grind (arith, common_steps))

pub returns : goal.returns
unfolding clauses
returns g c =
    let e = no_more (λ n. clauses (stmt c.args.self.now.depth) n c.loop-turn.stage c.loop-turn.parts (input_of c.loop-turn.tokens)) _ c.loop-turn._turn c.loop-turn-test.false c.loop-turn.invariant in
    first_of (search rules, grind (arith, common_steps))
