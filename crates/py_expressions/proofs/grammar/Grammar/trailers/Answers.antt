use Rattle.std.proofs.Common.{rules, arith}
use Rattle.std.proofs.lemmas.Grind.{common_steps}
use Rattle.py_expressions.specs.Input.{input_of}
use Rattle.py_expressions.specs.Reading.{expr, trailers, all_trailers}
use Rattle.py_expressions.proofs.Turns.{one_more, no_more}
use Rattle.py_expressions.proofs.grammar.Grammar.trailers.Goals as goal

pub loop-turn-init : goal.loop-turn-init
unfolding all_trailers
loop-turn-init g c = first_of (search rules, grind (arith, common_steps))

pub returns-then-not-begins_trailer : goal.returns-then-not-begins_trailer
unfolding trailers
returns-then-not-begins_trailer g c =
    let e = one_more (λ n. trailers (expr c.args.self.now.depth) n c.loop-turn.left (input_of c.loop-turn.tokens)) _ c.loop-turn._turn c.loop-turn-test.true c.loop-turn.invariant in
    first_of (search rules, grind (arith, common_steps))

pub returns-in_err-left : goal.returns-in_err-left
unfolding trailers
returns-in_err-left g c =
    let e = one_more (λ n. trailers (expr c.args.self.now.depth) n c.loop-turn.left (input_of c.loop-turn.tokens)) _ c.loop-turn._turn c.loop-turn-test.true c.loop-turn.invariant in
    first_of (search rules, grind (arith, common_steps))

pub loop-turn-preserved : goal.loop-turn-preserved
unfolding trailers
loop-turn-preserved g c =
    let e = one_more (λ n. trailers (expr c.args.self.now.depth) n c.loop-turn.left (input_of c.loop-turn.tokens)) _ c.loop-turn._turn c.loop-turn-test.true c.loop-turn.invariant in
    first_of (search rules, grind (arith, common_steps))

pub returns : goal.returns
unfolding trailers
returns g c =
    let e = no_more (λ n. trailers (expr c.args.self.now.depth) n c.loop-turn.left (input_of c.loop-turn.tokens)) _ c.loop-turn._turn c.loop-turn-test.false c.loop-turn.invariant in
    first_of (search rules, grind (arith, common_steps))
