use Rattle.std.proofs.Common.{refl, map, ap, sym, ◌∙◌}
use Rattle.bc_scheme.specs.py_meaning.Plain.{plain_target}
use Rattle.emit_measures.specs.Limits.{saturated}
use Rattle.emit_measures.proofs.Sums.{none_summed, one_summed, whole}
use Rattle.emit_measures.proofs.StoreLengths.{deletes_in, deletes_sum, deletes_is}
use Rattle.emit_measures.proofs.target_lengths.deletes_length.Goals as goal

pub loop-target-init : goal.loop-target-init
loop-target-init c = none_summed (deletes_in c.args.locals.now) c.args.targets.now

pub loop-target-preserved : goal.loop-target-preserved
loop-target-preserved c =
    one_summed c.args.targets.now c.loop-target.target-index c.target-item.result c.delete_length.result c.saturating_add-length.result (deletes_sum c.args.locals.now) c.loop-target.invariant c.loop-target-test.true c.target-item.is (λ n. c.delete_length.ensures) c.saturating_add-length.ensures

pub returns : goal.returns
returns c level held iterator = whole c.args.targets.now c.loop-target.target-index c.loop-target.invariant c.loop-target-test.false (λ m. refl) 0 ∙ ap saturated (sym (deletes_is c.args.locals.now level held iterator (map plain_target c.args.targets.now)))
