use Rattle.std.proofs.Common.{[], refl, ap, ◌∙◌}
use Rattle.bc_scheme.specs.py_meaning.Plain.{plain_expr}
use Rattle.emit_measures.proofs.Rows.{filled_items}
use Rattle.emit_measures.specs.Lengths.{name_length}
use Rattle.emit_measures.proofs.StoreLengths.{name_told, aug_Name, aug_Attr, aug_Index, aug_none, aug_each}
use Rattle.emit_measures.proofs.target_lengths.augmented_length.Goals as goal

pub returns-in-Name : goal.returns-in-Name
returns-in-Name c level held iterator op =
    let own = name_told c.args.locals.now _ c.name_length-own.result (c.name_length-own.ensures ∙ ap (name_length c.args.locals.now) c.bytes.ensures) in
    rw (c.in-Name.is, aug_Name) (c.three.ensures _ _ _ own own c.expr_length-added.ensures)

pub returns-in-Attr : goal.returns-in-Attr
returns-in-Attr c level held iterator op = rw (c.in-Attr.is, aug_Attr) (c.both.ensures _ _ c.expr_length.ensures c.expr_length-added.ensures)

pub returns-in-Index : goal.returns-in-Index
returns-in-Index c level held iterator op = rw (c.in-Index.is, aug_Index) (c.three-in-Index.ensures _ _ _ c.expr_length-first.ensures c.expr_length-in-Index.ensures c.expr_length-added.ensures)

pub returns-then-is_empty : goal.returns-then-is_empty
returns-then-is_empty c level held iterator op =
    let own = name_told c.args.locals.now [] c.name_length-own-then-is_empty.result c.name_length-own-then-is_empty.ensures in
    rw (c.in-Unpack.is, aug_none c.args.locals.now level held iterator op (plain_expr c.args.value.now) c.in-Unpack.targets (c.is_empty.ensures.0 c.if-is_empty.true)) (c.three-then-is_empty.ensures _ _ _ own own c.expr_length-added.ensures)

pub returns-else-is_empty : goal.returns-else-is_empty
returns-else-is_empty c level held iterator op = rw (c.in-Unpack.is, aug_each c.args.locals.now level held iterator op (plain_expr c.args.value.now) c.in-Unpack.targets (filled_items c.is_empty.result c.in-Unpack.targets c.is_empty.ensures c.if-is_empty.false)) refl
