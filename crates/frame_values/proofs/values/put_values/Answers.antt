use Rattle.std.proofs.Common.{◌≡◌, ℕ, ◌+◌, ◌-◌, length, Some, slice_get, subst, arith}
use Rattle.frame_values.proofs.Pushing.{push_room, pushed_more}
use Rattle.frame_values.proofs.values.put_values.Goals as goal

pub push-requires : goal.push-requires
push-requires c =
    let vs = c.args.values.now in
    push_room vs (length vs - c.loop-at.at) c.args.frames.now c.loop-at.frames (omega (arith, c.loop-at-test.true)) (omega arith) c.loop-at.invariant c.requires.there c.requires.room

pub loop-at-preserved : goal.loop-at-preserved
loop-at-preserved c =
    let vs = c.args.values.now in
    let at = c.loop-at.at in
    let v = c.value_from-v.result in
    let same : length vs - 1 - at ≡ length vs - (at + 1) = omega arith in
    pushed_more vs (length vs - (at + 1)) (length vs - at) v c.args.frames.now c.loop-at.frames c.push.new.self (subst (λ (k : ℕ). slice_get vs k ≡ Some v) same c.value_from-v.ensures)
    (omega (arith, c.loop-at-test.true)) c.loop-at.invariant c.push.ensures
