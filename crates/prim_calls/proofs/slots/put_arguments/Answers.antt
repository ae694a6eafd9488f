use Rattle.std.proofs.Common.{length}
use Rattle.prim_calls.proofs.Values.{put_more, put_all}
use Rattle.prim_calls.proofs.slots.put_arguments.Goals as goal

pub loop-at-preserved : goal.loop-at-preserved
loop-at-preserved c =
    put_more c.loop-at.slots (length c.args.slots.now) c.args.args.now c.loop-at.at c.loop-at.auto.slots c.requires c.loop-at.invariant c.argument_at.result c.loop-at-test.true c.argument_at.ensures

pub returns : goal.returns
returns c = put_all c.loop-at.slots (length c.args.slots.now) c.args.args.now c.loop-at.at c.loop-at.auto.slots c.requires c.loop-at.invariant c.loop-at-test.false
