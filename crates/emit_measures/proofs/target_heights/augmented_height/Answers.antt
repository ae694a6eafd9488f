use Rattle.std.proofs.Common.{refl, ◌∙◌, arith}
use Rattle.bc_scheme.specs.py_meaning.Plain.{plain_expr}
use Rattle.emit_measures.proofs.Numbers.{two, plus, at_least}
use Rattle.emit_measures.proofs.Rows.{top, filled_items}
use Rattle.emit_measures.proofs.StoreHeights.{aug_Name, aug_Attr, aug_Index, aug_none, aug_Each}
use Rattle.emit_measures.proofs.target_heights.augmented_height.Goals as goal

pub returns-in-Name : goal.returns-in-Name
returns-in-Name c level op = rw (c.in-Name.is, aug_Name) (c.saturating_add.ensures ∙ plus top 1 _ _ c.expr_height-height.ensures)

pub returns-in-Attr : goal.returns-in-Attr
returns-in-Attr c level op = rw (c.in-Attr.is, aug_Attr) (c.max.ensures ∙ two top _ _ _ _ c.expr_height.ensures (c.saturating_add-in-Attr.ensures ∙ plus top 2 _ _ c.expr_height-height.ensures))

pub returns-in-Index : goal.returns-in-Index
returns-in-Index c level op =
    rw (c.in-Index.is, aug_Index)
    (c.max-in-Index-2.ensures ∙ two top _ _ _ _ (c.over-read.ensures _ _ c.expr_height-in-Index.ensures c.expr_height-in-Index-2.ensures)
    (c.max-in-Index.ensures ∙ at_least top 4 _ _ (c.saturating_add-in-Index.ensures ∙ plus top 3 _ _ c.expr_height-height.ensures) (omega arith)))

pub returns-then-is_empty : goal.returns-then-is_empty
returns-then-is_empty c level op = rw (c.in-Unpack.is, aug_none level op (plain_expr c.args.value.now) c.in-Unpack.targets (c.is_empty.ensures.0 c.if-is_empty.true)) (c.saturating_add-then-is_empty.ensures ∙ plus top 1 _ _ c.expr_height-height.ensures)

pub returns-else-is_empty : goal.returns-else-is_empty
returns-else-is_empty c level op = rw (c.in-Unpack.is, aug_Each level op (plain_expr c.args.value.now) c.in-Unpack.targets (filled_items c.is_empty.result c.in-Unpack.targets c.is_empty.ensures c.if-is_empty.false)) refl
