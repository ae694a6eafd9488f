use Rattle.std.proofs.Common.{rules, arith}
use Rattle.std.proofs.lemmas.Grind.{common_steps}
use Rattle.py_expressions.specs.Input.{input_of}
use Rattle.py_expressions.specs.Reading.{expr, members_from}
use Rattle.py_expressions.proofs.Turns.{one_more, no_more}
use Rattle.py_expressions.proofs.grammar.Grammar.members_from.Goals as goal

pub returns-in_err-inner : goal.returns-in_err-inner
unfolding members_from
returns-in_err-inner g c =
    let e = one_more (λ n. members_from (expr c.args.self.now.depth c.args.item) n c.loop-turn.found (input_of c.loop-turn.tokens)) _ c.loop-turn._turn c.loop-turn-test.true c.loop-turn.invariant in
    first_of (search rules, grind (arith, common_steps))

pub returns-then-not-eat : goal.returns-then-not-eat
unfolding members_from
returns-then-not-eat g c =
    let e = one_more (λ n. members_from (expr c.args.self.now.depth c.args.item) n c.loop-turn.found (input_of c.loop-turn.tokens)) _ c.loop-turn._turn c.loop-turn-test.true c.loop-turn.invariant in
    first_of (search rules, grind (arith, common_steps))

pub returns-then-not-begins_test : goal.returns-then-not-begins_test
unfolding members_from
returns-then-not-begins_test g c =
    let e = one_more (λ n. members_from (expr c.args.self.now.depth c.args.item) n c.loop-turn.found (input_of c.loop-turn.tokens)) _ c.loop-turn._turn c.loop-turn-test.true c.loop-turn.invariant in
    first_of (search rules, grind (arith, common_steps))

pub loop-turn-preserved : goal.loop-turn-preserved
unfolding members_from
loop-turn-preserved g c =
    let e = one_more (λ n. members_from (expr c.args.self.now.depth c.args.item) n c.loop-turn.found (input_of c.loop-turn.tokens)) _ c.loop-turn._turn c.loop-turn-test.true c.loop-turn.invariant in
    first_of (search rules, grind (arith, common_steps))

pub returns : goal.returns
unfolding members_from
returns g c =
    let e = no_more (λ n. members_from (expr c.args.self.now.depth c.args.item) n c.loop-turn.found (input_of c.loop-turn.tokens)) _ c.loop-turn._turn c.loop-turn-test.false c.loop-turn.invariant in
    first_of (search rules, grind (arith, common_steps))
