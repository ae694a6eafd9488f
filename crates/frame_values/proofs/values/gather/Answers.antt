use Rattle.std.proofs.Common.{◌≡◌, ℕ, ◌-◌, suc, length, subst, arith}
use Rattle.frame_values.specs.Slots.{HasValue}
use Rattle.frame_values.proofs.Gathering.{Gathered, gathered_more, gathered_value, gathered_known}
use Rattle.frame_values.proofs.values.gather.Goals as goal

pub loop-at-preserved : goal.loop-at-preserved
loop-at-preserved g c =
    let texts = g.C.Constants.text_of c.args.consts.now in
    let tuples = g.C.Constants.items_of c.args.consts.now in
    let n = length c.args.items.now in
    let at = c.loop-at.at in
    let calls = c.args.frames.now.calls in
    let same : n - 1 - at ≡ n - suc at = omega arith in
    gathered_more texts tuples c.args.arena.now.objects calls n c.loop-at.items at c.value_at-v.result (omega (arith, c.loop-at-test.true, c.loop-at.invariant.as_many))
    (subst (λ (k : ℕ). HasValue k c.value_at-v.result calls) same c.value_at-v.ensures.there) c.value_at-v.ensures.known c.loop-at.invariant

pub returns-clause-values : goal.returns-clause-values
returns-clause-values g c =
    let texts = g.C.Constants.text_of c.args.consts.now in
    let tuples = g.C.Constants.items_of c.args.consts.now in
    let n = length c.args.items.now in
    let objects = c.args.arena.now.objects in
    let calls = c.args.frames.now.calls in
    let end : c.loop-at.at ≡ n = omega (arith, c.loop-at-test.false, c.loop-at.auto.at-end) in
    gathered_value texts tuples objects calls n c.loop-at.items (subst (Gathered texts tuples objects calls n c.loop-at.items) end c.loop-at.invariant)

pub returns-clause-known : goal.returns-clause-known
returns-clause-known g c =
    let texts = g.C.Constants.text_of c.args.consts.now in
    let tuples = g.C.Constants.items_of c.args.consts.now in
    let n = length c.args.items.now in
    let objects = c.args.arena.now.objects in
    let calls = c.args.frames.now.calls in
    let end : c.loop-at.at ≡ n = omega (arith, c.loop-at-test.false, c.loop-at.auto.at-end) in
    gathered_known texts tuples objects calls n c.loop-at.items (subst (Gathered texts tuples objects calls n c.loop-at.items) end c.loop-at.invariant)
