use Rattle.std.proofs.Common.{rules, arith}
use Rattle.std.proofs.lemmas.Grind.{common_steps}
use Rattle.manifest_lines.specs.Literals.{strings_from, strings}
use Rattle.manifest_lines.proofs.Turns.{one_more, no_more}
use Rattle.manifest_lines.proofs.literal.strings.Goals as goal

pub loop-turn-init : goal.loop-turn-init
unfolding strings
loop-turn-init c = first_of (search rules, grind (arith, common_steps))

pub returns-in_default : goal.returns-in_default
unfolding strings_from
returns-in_default c =
    let e = one_more (λ n. strings_from n c.loop-turn.bytes.items c.loop-turn.tokens.tokens.now) _ c.loop-turn._turn c.loop-turn-test.true c.loop-turn.invariant in
    first_of (search rules, grind (arith, common_steps))

pub loop-turn-preserved : goal.loop-turn-preserved
unfolding strings_from
loop-turn-preserved c =
    let e = one_more (λ n. strings_from n c.loop-turn.bytes.items c.loop-turn.tokens.tokens.now) _ c.loop-turn._turn c.loop-turn-test.true c.loop-turn.invariant in
    first_of (search rules, grind (arith, common_steps))

pub returns : goal.returns
unfolding strings_from
returns c =
    let e = no_more (λ n. strings_from n c.loop-turn.bytes.items c.loop-turn.tokens.tokens.now) _ c.loop-turn._turn c.loop-turn-test.false c.loop-turn.invariant in
    first_of (search rules, grind (arith, common_steps))
