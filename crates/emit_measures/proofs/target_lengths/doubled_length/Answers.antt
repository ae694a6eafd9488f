use Rattle.std.proofs.Common.{refl}
use Rattle.emit_measures.proofs.Sums.{none_summed, one_summed, whole}
use Rattle.emit_measures.proofs.StoreLengths.{doubled_in, doubled_sum}
use Rattle.emit_measures.proofs.target_lengths.doubled_length.Goals as goal

pub loop-target-init : goal.loop-target-init
loop-target-init c = none_summed (doubled_in c.args.locals.now) c.args.targets.now

pub loop-target-preserved : goal.loop-target-preserved
loop-target-preserved c =
    one_summed c.args.targets.now c.loop-target.target-index c.target-item.result c.plus.result c.saturating_add-length.result (doubled_sum c.args.locals.now) c.loop-target.invariant c.loop-target-test.true c.target-item.is (λ n. c.plus.ensures _ c.store_length.ensures) c.saturating_add-length.ensures

pub returns : goal.returns
returns c = whole c.args.targets.now c.loop-target.target-index c.loop-target.invariant c.loop-target-test.false (λ m. refl) 0
