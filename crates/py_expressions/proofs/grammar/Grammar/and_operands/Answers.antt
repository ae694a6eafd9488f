use Rattle.std.proofs.Common.{rules, arith}
use Rattle.std.proofs.lemmas.Grind.{common_steps}
use Rattle.py_tokens.specs.declared.word.Word.TheVariants as word
use Rattle.py_expressions.specs.Input.{input_of}
use Rattle.py_expressions.specs.Reading.{expr, operands, operands_from, not_test}
use Rattle.py_expressions.proofs.Turns.{one_more, no_more}
use Rattle.py_expressions.proofs.grammar.Grammar.and_operands.Goals as goal

pub loop-turn-init : goal.loop-turn-init
unfolding operands
loop-turn-init g c = first_of (search rules, grind (arith, common_steps))

pub returns-then-not-eat : goal.returns-then-not-eat
unfolding operands_from
returns-then-not-eat g c =
    let e = one_more (λ n. operands_from (not_test (expr c.args.self.now.depth)) word.And n c.loop-turn.found (input_of c.loop-turn.tokens)) _ c.loop-turn._turn c.loop-turn-test.true c.loop-turn.invariant in
    first_of (search rules, grind (arith, common_steps))

pub returns-in_err-not_test : goal.returns-in_err-not_test
unfolding operands_from
returns-in_err-not_test g c =
    let e = one_more (λ n. operands_from (not_test (expr c.args.self.now.depth)) word.And n c.loop-turn.found (input_of c.loop-turn.tokens)) _ c.loop-turn._turn c.loop-turn-test.true c.loop-turn.invariant in
    first_of (search rules, grind (arith, common_steps))

pub loop-turn-preserved : goal.loop-turn-preserved
unfolding operands_from
loop-turn-preserved g c =
    let e = one_more (λ n. operands_from (not_test (expr c.args.self.now.depth)) word.And n c.loop-turn.found (input_of c.loop-turn.tokens)) _ c.loop-turn._turn c.loop-turn-test.true c.loop-turn.invariant in
    first_of (search rules, grind (arith, common_steps))

pub returns : goal.returns
unfolding operands_from
returns g c =
    let e = no_more (λ n. operands_from (not_test (expr c.args.self.now.depth)) word.And n c.loop-turn.found (input_of c.loop-turn.tokens)) _ c.loop-turn._turn c.loop-turn-test.false c.loop-turn.invariant in
    first_of (search rules, grind (arith, common_steps))
