use Rattle.mpy_merge.proofs.Outermost.{calls_more}
use Rattle.mpy_merge.proofs.outer.items.Goals as goal

pub loop-place-preserved : goal.loop-place-preserved
loop-place-preserved c =
    calls_more c.loop-place.items.items c.push.new.self.items c.push-in-loop-place.new.self.items c.push-in-loop-place-2.new.self.items _ c.loop-place.place c.args.modules c.loop-place-test.true c.in_ok-push.ensures.items c.in_ok-push-2.ensures.items c.in_ok-push-3.ensures.items c.loop-place.invariant
