use Rattle.std.proofs.Common.{◌≡◌, length, arith}
use Rattle.frame_calls.proofs.Enterings.{filled_none, filled_more, filled_all, local_there}
use Rattle.frame_calls.proofs.entering.fill_locals.Goals as goal

pub loop-i-init : goal.loop-i-init
loop-i-init c = filled_none c.args.values.now c.args.frames.now

pub set_local-requires : goal.set_local-requires
set_local-requires c = local_there c.args.values.now c.loop-i.i c.args.frames.now c.loop-i.frames c.loop-i-test.true c.requires.there c.loop-i.invariant

pub loop-i-preserved : goal.loop-i-preserved
loop-i-preserved c =
    filled_more c.args.values.now c.loop-i.i c.bound_at.result c.args.frames.now c.loop-i.frames c.set_local.new.self c.bound_at.ensures c.requires.there c.loop-i.invariant c.set_local.ensures

pub returns : goal.returns
returns c =
    let whole : c.loop-i.i ≡ length c.args.values.now = omega arith in
    filled_all c.args.values.now c.loop-i.i c.args.frames.now c.loop-i.frames whole c.loop-i.invariant
