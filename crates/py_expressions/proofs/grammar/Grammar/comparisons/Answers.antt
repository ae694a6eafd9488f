use Rattle.std.proofs.Common.{rules, arith}
use Rattle.std.proofs.lemmas.Grind.{common_steps}
use Rattle.py_expressions.specs.Input.{input_of}
use Rattle.py_expressions.specs.Reading.{expr, comparisons, all_comparisons}
use Rattle.py_expressions.proofs.Turns.{one_more, no_more}
use Rattle.py_expressions.proofs.grammar.Grammar.comparisons.Goals as goal

pub loop-turn-init : goal.loop-turn-init
unfolding all_comparisons
loop-turn-init g c = first_of (search rules, grind (arith, common_steps))

pub returns-in_err-op : goal.returns-in_err-op
unfolding comparisons
returns-in_err-op g c =
    let e = one_more (λ n. comparisons (expr c.args.self.now.depth) n c.loop-turn.found (input_of c.loop-turn.tokens)) _ c.loop-turn._turn c.loop-turn-test.true c.loop-turn.invariant in
    first_of (search rules, grind (arith, common_steps))

pub returns-in_default : goal.returns-in_default
unfolding comparisons
returns-in_default g c =
    let e = one_more (λ n. comparisons (expr c.args.self.now.depth) n c.loop-turn.found (input_of c.loop-turn.tokens)) _ c.loop-turn._turn c.loop-turn-test.true c.loop-turn.invariant in
    first_of (search rules, grind (arith, common_steps))

pub returns-in_err-right : goal.returns-in_err-right
unfolding comparisons
returns-in_err-right g c =
    let e = one_more (λ n. comparisons (expr c.args.self.now.depth) n c.loop-turn.found (input_of c.loop-turn.tokens)) _ c.loop-turn._turn c.loop-turn-test.true c.loop-turn.invariant in
    first_of (search rules, grind (arith, common_steps))

pub loop-turn-preserved : goal.loop-turn-preserved
unfolding comparisons
loop-turn-preserved g c =
    let e = one_more (λ n. comparisons (expr c.args.self.now.depth) n c.loop-turn.found (input_of c.loop-turn.tokens)) _ c.loop-turn._turn c.loop-turn-test.true c.loop-turn.invariant in
    first_of (search rules, grind (arith, common_steps))

pub returns : goal.returns
unfolding comparisons
returns g c =
    let e = no_more (λ n. comparisons (expr c.args.self.now.depth) n c.loop-turn.found (input_of c.loop-turn.tokens)) _ c.loop-turn._turn c.loop-turn-test.false c.loop-turn.invariant in
    first_of (search rules, grind (arith, common_steps))
