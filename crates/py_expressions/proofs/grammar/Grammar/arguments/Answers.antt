use Rattle.std.proofs.Common.{rules, arith}
use Rattle.std.proofs.lemmas.Grind.{common_steps}
use Rattle.py_expressions.specs.Input.{input_of}
use Rattle.py_expressions.specs.Reading.{expr, arguments, arguments_from}
use Rattle.py_expressions.proofs.Turns.{one_more, no_more}
use Rattle.py_expressions.proofs.grammar.Grammar.arguments.Goals as goal

pub loop-turn-init : goal.loop-turn-init
unfolding arguments
loop-turn-init g c = record {
  reads = first_of (search rules, grind (arith, common_steps));
  later = first_of (search rules, grind (arith, common_steps));
}

pub returns-then-not-begins_test : goal.returns-then-not-begins_test
unfolding arguments_from
returns-then-not-begins_test g c =
    let e = one_more (λ n. arguments_from (expr c.args.self.now.depth) n c.loop-turn.given (input_of c.loop-turn.tokens)) _ c.loop-turn._turn c.loop-turn-test.true c.loop-turn.invariant.reads in
    first_of (search rules, grind (arith, common_steps))

pub returns-in_err-given : goal.returns-in_err-given
unfolding arguments_from
returns-in_err-given g c =
    let e = one_more (λ n. arguments_from (expr c.args.self.now.depth) n c.loop-turn.given (input_of c.loop-turn.tokens)) _ c.loop-turn._turn c.loop-turn-test.true c.loop-turn.invariant.reads in
    first_of (search rules, grind (arith, common_steps))

pub returns-then-not-eat : goal.returns-then-not-eat
unfolding arguments_from
returns-then-not-eat g c =
    let e = one_more (λ n. arguments_from (expr c.args.self.now.depth) n c.loop-turn.given (input_of c.loop-turn.tokens)) _ c.loop-turn._turn c.loop-turn-test.true c.loop-turn.invariant.reads in
    first_of (search rules, grind (arith, common_steps))

pub loop-turn-preserved : goal.loop-turn-preserved
unfolding arguments_from
loop-turn-preserved g c = record {
  reads =
      let e = one_more (λ n. arguments_from (expr c.args.self.now.depth) n c.loop-turn.given (input_of c.loop-turn.tokens)) _ c.loop-turn._turn c.loop-turn-test.true c.loop-turn.invariant.reads in
      first_of (search rules, grind (arith, common_steps));
  later = first_of (search rules, grind (arith, common_steps));
}

pub returns : goal.returns
unfolding arguments_from
returns g c =
    let e = no_more (λ n. arguments_from (expr c.args.self.now.depth) n c.loop-turn.given (input_of c.loop-turn.tokens)) _ c.loop-turn._turn c.loop-turn-test.false c.loop-turn.invariant.reads in
    first_of (search rules, grind (arith, common_steps))
