use Rattle.std.proofs.Common.{sym, ap, ◌∙◌}
use Rattle.bc_scheme.specs.py_meaning.Plain.{plain_expr}
use Rattle.emit_measures.specs.Limits.{saturated}
use Rattle.emit_measures.proofs.Numbers.{two, plus}
use Rattle.emit_measures.proofs.Rows.{top}
use Rattle.emit_measures.proofs.LayerHeights.{no_code, all_code, with_code}
use Rattle.emit_measures.proofs.statement_heights.assert_height.Goals as goal

pub returns-then-level-gt0 : goal.returns-then-level-gt0
returns-then-level-gt0 c = ap saturated (sym (no_code c.args.level (plain_expr c.args.test.now) c.args.message.now c.if-level-gt0.true))

pub returns-in-None : goal.returns-in-None
returns-in-None c = rw c.in-None.is (c.expr_height-height.ensures ∙ ap saturated (sym (all_code c.args.level (plain_expr c.args.test.now) c.if-level-gt0.false)))

pub returns-in-Some : goal.returns-in-Some
returns-in-Some c =
    rw c.in-Some.is
    (c.max.ensures ∙ two top _ _ _ _ c.expr_height-height.ensures (c.saturating_add.ensures ∙ plus top 1 _ _ c.expr_height.ensures)
    ∙ ap saturated (sym (with_code c.args.level (plain_expr c.args.test.now) (plain_expr c.in-Some.message) c.if-level-gt0.false)))
