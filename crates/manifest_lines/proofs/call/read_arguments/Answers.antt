use Rattle.std.proofs.Common.{rules, arith}
use Rattle.std.proofs.lemmas.Grind.{common_steps}
use Rattle.manifest_lines.specs.Calls.{arguments_from, arguments}
use Rattle.manifest_lines.proofs.Turns.{one_more, no_more}
use Rattle.manifest_lines.proofs.call.read_arguments.Goals as goal

pub loop-turn-init : goal.loop-turn-init
unfolding arguments
loop-turn-init c = first_of (search rules, grind (arith, common_steps))

pub returns-in_err-next : goal.returns-in_err-next
unfolding arguments_from
returns-in_err-next c =
    let e = one_more (λ n. arguments_from n c.loop-turn.found c.loop-turn.tokens.tokens.now) _ c.loop-turn._turn c.loop-turn-test.true c.loop-turn.invariant in
    first_of (search rules, grind (arith, common_steps))

pub returns-in_default : goal.returns-in_default
unfolding arguments_from
returns-in_default c =
    let e = one_more (λ n. arguments_from n c.loop-turn.found c.loop-turn.tokens.tokens.now) _ c.loop-turn._turn c.loop-turn-test.true c.loop-turn.invariant in
    first_of (search rules, grind (arith, common_steps))

pub loop-turn-preserved : goal.loop-turn-preserved
unfolding arguments_from
loop-turn-preserved c =
    let e = one_more (λ n. arguments_from n c.loop-turn.found c.loop-turn.tokens.tokens.now) _ c.loop-turn._turn c.loop-turn-test.true c.loop-turn.invariant in
    first_of (search rules, grind (arith, common_steps))

pub returns : goal.returns
unfolding arguments_from
returns c =
    let e = no_more (λ n. arguments_from n c.loop-turn.found c.loop-turn.tokens.tokens.now) _ c.loop-turn._turn c.loop-turn-test.false c.loop-turn.invariant in
    first_of (search rules, grind (arith, common_steps))
