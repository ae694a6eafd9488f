use Rattle.std.proofs.Common.{sym, ap, refl, ◌∙◌, arith}
use Rattle.bc_scheme.specs.py_meaning.Tree.{count}
use Rattle.bc_scheme.specs.py_meaning.Plain.{defaults_of}
use Rattle.emit_measures.specs.Limits.{saturated}
use Rattle.emit_measures.proofs.Numbers.{begun, behind}
use Rattle.emit_measures.proofs.Rows.{top}
use Rattle.emit_measures.proofs.LayerHeights.{one_given, defaults_in, no_default, some_default, all_counted, all_given}
use Rattle.emit_measures.proofs.statement_heights.defaults_height.Goals as goal

pub loop-param-init : goal.loop-param-init
loop-param-init c = record { below = 0; is = refl; so_far = begun top (defaults_in 0 c.args.params.now); counted = let n = count (defaults_of c.args.params.now) in omega arith }

pub loop-param-preserved : goal.loop-param-preserved
loop-param-preserved c =
    one_given c.args.params.now c.loop-param.param-index c.param-item.result c.default_height.result c.max-height.result c.saturating_add-slots.result c.default_count.result c.loop-param.invariant c.loop-param-test.true c.param-item.is
    c.default_count.ensures c.default_height.ensures c.max-height.ensures c.saturating_add-slots.ensures

pub returns-then-slots-eq0 : goal.returns-then-slots-eq0
returns-then-slots-eq0 c =
    let es = defaults_of c.args.params.now in
    let g = c.loop-param.invariant in
    let n = all_counted c.args.params.now c.loop-param.param-index g c.loop-param-test.false in
    let slots = g.is in
    let zero = c.if-slots-eq0.true in
    ap saturated (sym (no_default es (omega (arith, n, slots, zero))))

pub returns : goal.returns
returns c =
    let es = defaults_of c.args.params.now in
    let g = c.loop-param.invariant in
    let n = all_counted c.args.params.now c.loop-param.param-index g c.loop-param-test.false in
    let slots = g.is in
    let some = c.if-slots-eq0.false in
    let h = all_given c.args.params.now c.loop-param.param-index g c.loop-param-test.false in
    c.max.ensures ∙ behind top 2 _ _ h (omega arith) ∙ ap saturated (sym (some_default es (omega (arith, n, slots, some))))
