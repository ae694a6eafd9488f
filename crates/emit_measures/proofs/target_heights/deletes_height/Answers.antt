use Rattle.std.proofs.Common.{map, sym, ap, refl, ◌∙◌}
use Rattle.bc_scheme.specs.py_meaning.Plain.{plain_target}
use Rattle.emit_measures.specs.Limits.{saturated}
use Rattle.emit_measures.proofs.Rows.{none_yet, one_more, whole}
use Rattle.emit_measures.proofs.StoreHeights.{deletes_in, deletes_row, deletes_tall}
use Rattle.emit_measures.proofs.target_heights.deletes_height.Goals as goal

pub loop-target-init : goal.loop-target-init
loop-target-init c = none_yet deletes_in c.args.targets.now

pub loop-target-preserved : goal.loop-target-preserved
loop-target-preserved c = one_more c.args.targets.now c.loop-target.target-index c.target-item.result c.delete_height.result c.max-height.result deletes_row c.loop-target.invariant c.loop-target-test.true c.target-item.is (λ n. c.delete_height.ensures) c.max-height.ensures

pub returns : goal.returns
returns c level = whole c.args.targets.now c.loop-target.target-index c.loop-target.invariant c.loop-target-test.false (λ m. refl) 0 ∙ ap saturated (sym (deletes_tall level (map plain_target c.args.targets.now)))
