use Rattle.std.proofs.Common.{refl, ap, sym, ◌∙◌}
use Rattle.emit_measures.specs.Limits.{saturated}
use Rattle.emit_measures.specs.Lengths.{defaults_length}
use Rattle.emit_measures.proofs.Sums.{none_summed, one_summed, whole}
use Rattle.emit_measures.proofs.LayerLengths.{defaults_in, defaults_sum, no_default, some_default}
use Rattle.emit_measures.proofs.statement_lengths.defaults_length.Goals as goal

pub loop-param-init : goal.loop-param-init
loop-param-init c = none_summed (defaults_in c.args.locals.now) c.args.params.now

pub loop-param-preserved : goal.loop-param-preserved
loop-param-preserved c =
    one_summed c.args.params.now c.loop-param.param-index c.param-item.result c.default_length.result c.saturating_add-length.result (defaults_sum c.args.locals.now) c.loop-param.invariant c.loop-param-test.true c.param-item.is (λ n. c.default_length.ensures) c.saturating_add-length.ensures

pub returns-then-not-has_defaults : goal.returns-then-not-has_defaults
returns-then-not-has_defaults c = ap (λ z. saturated (defaults_length c.args.locals.now z)) (sym (no_default c.args.locals.now c.args.params.now (sym c.has_defaults.ensures ∙ c.if-not-has_defaults.true)))

pub returns : goal.returns
returns c =
    c.plus.ensures _ (whole c.args.params.now c.loop-param.param-index c.loop-param.invariant c.loop-param-test.false (λ m. refl) 0)
    ∙ ap saturated (sym (some_default c.args.locals.now c.args.params.now (sym c.has_defaults.ensures ∙ c.if-not-has_defaults.false)))
