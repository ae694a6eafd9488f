use Rattle.std.proofs.Common.{rules, arith}
use Rattle.std.proofs.lemmas.Grind.{common_steps}
use Rattle.manifest_lines.specs.Literals.{signs}
use Rattle.manifest_lines.proofs.Turns.{one_more, no_more}
use Rattle.manifest_lines.proofs.literal.count_signs.Goals as goal

pub returns-then-not-eat : goal.returns-then-not-eat
unfolding signs
returns-then-not-eat c =
    let e = one_more (λ n. signs c.args.sign n c.loop-turn.turn c.loop-turn.tokens.tokens.now) _ c.loop-turn.turn c.loop-turn-test.true c.loop-turn.invariant in
    first_of (search rules, grind (arith, common_steps))

pub loop-turn-preserved : goal.loop-turn-preserved
unfolding signs
loop-turn-preserved c =
    let e = one_more (λ n. signs c.args.sign n c.loop-turn.turn c.loop-turn.tokens.tokens.now) _ c.loop-turn.turn c.loop-turn-test.true c.loop-turn.invariant in
    first_of (search rules, grind (arith, common_steps))

pub returns : goal.returns
unfolding signs
returns c =
    let e = no_more (λ n. signs c.args.sign n c.loop-turn.turn c.loop-turn.tokens.tokens.now) _ c.loop-turn.turn c.loop-turn-test.false c.loop-turn.invariant in
    first_of (search rules, grind (arith, common_steps))
