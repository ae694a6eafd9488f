use Rattle.std.proofs.Common.{◌≡◌, ◌+◌, ◌-◌, ◌<◌, ◌≤◌, ◌∙◌, arith}
use Rattle.frame_calls.specs.Operands.{running_slots}
use Rattle.frame_calls.proofs.Slots.{args_more, longer}
use Rattle.frame_calls.proofs.operands.fill_args.Goals as goal

pub loop-left-preserved : goal.loop-left-preserved
loop-left-preserved c =
    let left = c.loop-left.left in
    let some : 0 < left = c.loop-left-test.true in
    let at : left - 1 + 1 ≡ left = omega (arith, some) in
    let few : left ≤ c.args.count = omega (arith, c.loop-left.invariant.many) in
    record {
      room = omega (arith, c.loop-left.invariant.room, c.add.ensures.room);
      many = omega (arith, some, c.loop-left.invariant.many, longer c.loop-left.args.items c.add.new.items.items c.value_at.result c.add.ensures.items);
      args = c.add.ensures.items ∙ args_more c.args.above c.args.count left (left - 1) (running_slots c.args.frames.now.calls) c.loop-left.args.items c.value_at.result at few c.loop-left.invariant.args c.value_at.ensures;
    }
