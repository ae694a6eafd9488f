use Rattle.std.proofs.Common.{◌≡◌, ◌+◌, ◌-◌, ◌<◌, ◌≤◌, ◌∙◌, arith}
use Rattle.frame_calls.specs.Operands.{running_slots}
use Rattle.frame_calls.proofs.Slots.{keys_done, keys_more, longer}
use Rattle.frame_calls.proofs.operands.fill_keys.Goals as goal

pub loop-left-preserved : goal.loop-left-preserved
loop-left-preserved c =
    let left = c.loop-left.left in
    let some : 0 < left = c.loop-left-test.true in
    let at : left - 1 + 1 ≡ left = omega (arith, some) in
    let few : left ≤ c.args.pairs = omega (arith, c.loop-left.invariant.many) in
    let name = c.value_at-name.result in
    let v = c.value_at-v.result in
    record {
      room = omega (arith, c.loop-left.invariant.room, c.add.ensures.room);
      many = omega (arith, some, c.loop-left.invariant.many, longer c.loop-left.keys.items c.add.new.items.items (name, v) c.add.ensures.items);
      keys = c.add.ensures.items ∙ keys_more c.args.pairs left (left - 1) (running_slots c.args.frames.now.calls) c.loop-left.keys.items name v at few c.requires.there c.loop-left.invariant.keys c.value_at-name.ensures c.value_at-v.ensures;
    }

pub returns-clause-keys : goal.returns-clause-keys
returns-clause-keys c =
    keys_done c.args.pairs c.loop-left.left (running_slots c.args.frames.now.calls) c.loop-left.keys.items (omega (arith, c.loop-left-test.false)) c.loop-left.invariant.keys
