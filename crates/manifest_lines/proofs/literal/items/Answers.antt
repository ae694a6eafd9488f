use Rattle.std.proofs.Common.{rules, arith}
use Rattle.std.proofs.lemmas.Grind.{common_steps}
use Rattle.manifest_lines.specs.Literals.{items_from, items}
use Rattle.manifest_lines.proofs.Turns.{one_more, no_more}
use Rattle.manifest_lines.proofs.literal.items.Goals as goal

pub loop-turn-init : goal.loop-turn-init
unfolding items
loop-turn-init c = first_of (search rules, grind (arith, common_steps))

pub returns-in_err-next : goal.returns-in_err-next
unfolding items_from
returns-in_err-next c =
    let e = one_more (λ n. items_from n c.loop-turn.found c.loop-turn.tokens.tokens.now) _ c.loop-turn._turn c.loop-turn-test.true c.loop-turn.invariant in
    first_of (search rules, grind (arith, common_steps))

pub returns-in_default : goal.returns-in_default
unfolding items_from
returns-in_default c =
    let e = one_more (λ n. items_from n c.loop-turn.found c.loop-turn.tokens.tokens.now) _ c.loop-turn._turn c.loop-turn-test.true c.loop-turn.invariant in
    first_of (search rules, grind (arith, common_steps))

pub loop-turn-preserved : goal.loop-turn-preserved
unfolding items_from
loop-turn-preserved c =
    let e = one_more (λ n. items_from n c.loop-turn.found c.loop-turn.tokens.tokens.now) _ c.loop-turn._turn c.loop-turn-test.true c.loop-turn.invariant in
    first_of (search rules, grind (arith, common_steps))

pub returns : goal.returns
unfolding items_from
returns c =
    let e = no_more (λ n. items_from n c.loop-turn.found c.loop-turn.tokens.tokens.now) _ c.loop-turn._turn c.loop-turn-test.false c.loop-turn.invariant in
    first_of (search rules, grind (arith, common_steps))
