use Rattle.std.proofs.Common.{refl, ap, ◌∙◌}
use Rattle.emit_measures.specs.Lengths.{name_length}
use Rattle.emit_measures.proofs.Sums.{none_summed, one_summed, whole}
use Rattle.emit_measures.proofs.StoreLengths.{name_told}
use Rattle.emit_measures.proofs.Names.{taken_in, taken_sum}
use Rattle.emit_measures.proofs.imports.taken_length.Goals as goal

pub loop-alias-init : goal.loop-alias-init
loop-alias-init c = none_summed (taken_in c.args.locals.now) c.args.names.now

pub loop-alias-preserved : goal.loop-alias-preserved
loop-alias-preserved c =
    one_summed c.args.names.now c.loop-alias.alias-index c.alias-item.result c.plus-own.result c.saturating_add-length.result (taken_sum c.args.locals.now) c.loop-alias.invariant c.loop-alias-test.true c.alias-item.is
    (λ n. c.plus-own.ensures _ (name_told c.args.locals.now _ c.name_length.result (c.name_length.ensures ∙ ap (name_length c.args.locals.now) c.bound_name.ensures))) c.saturating_add-length.ensures

pub returns : goal.returns
returns c = whole c.args.names.now c.loop-alias.alias-index c.loop-alias.invariant c.loop-alias-test.false (λ m. refl) 0
