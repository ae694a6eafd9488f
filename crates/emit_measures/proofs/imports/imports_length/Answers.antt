use Rattle.std.proofs.Common.{refl}
use Rattle.emit_measures.proofs.Sums.{none_summed, one_summed, whole}
use Rattle.emit_measures.proofs.Names.{imports_in, imports_sum}
use Rattle.emit_measures.proofs.imports.imports_length.Goals as goal

pub loop-alias-init : goal.loop-alias-init
loop-alias-init c = none_summed (imports_in c.args.locals.now) c.args.names.now

pub loop-alias-preserved : goal.loop-alias-preserved
loop-alias-preserved c =
    one_summed c.args.names.now c.loop-alias.alias-index c.alias-item.result c.alias_length.result c.saturating_add-length.result (imports_sum c.args.locals.now) c.loop-alias.invariant c.loop-alias-test.true c.alias-item.is (λ n. c.alias_length.ensures) c.saturating_add-length.ensures

pub returns : goal.returns
returns c = whole c.args.names.now c.loop-alias.alias-index c.loop-alias.invariant c.loop-alias-test.false (λ m. refl) 0
