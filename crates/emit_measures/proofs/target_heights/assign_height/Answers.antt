use Rattle.std.proofs.Common.{sym, ap, ◌∙◌}
use Rattle.bc_scheme.specs.py_meaning.Plain.{plain_expr}
use Rattle.emit_measures.specs.Limits.{saturated}
use Rattle.emit_measures.proofs.Numbers.{two}
use Rattle.emit_measures.proofs.Rows.{top, empty_slice, filled_slice}
use Rattle.emit_measures.proofs.StoreHeights.{no_assign, assign_tall}
use Rattle.emit_measures.proofs.target_heights.assign_height.Goals as goal

pub returns-then-is_empty : goal.returns-then-is_empty
returns-then-is_empty c level =
    ap saturated (sym (no_assign level (plain_expr c.args.value.now) c.args.targets.now (empty_slice c.args.targets.now c.is_empty.result c.is_empty.ensures c.if-is_empty.true)))

pub returns : goal.returns
returns c level =
    c.max.ensures ∙ two top _ _ _ _ c.expr_height.ensures c.assigns_height.ensures
    ∙ ap saturated (sym (assign_tall level (plain_expr c.args.value.now) c.args.targets.now (filled_slice c.args.targets.now c.is_empty.result c.is_empty.ensures c.if-is_empty.false)))
