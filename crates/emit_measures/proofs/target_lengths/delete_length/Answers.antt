use Rattle.std.proofs.Common.{refl}
use Rattle.emit_measures.proofs.Rows.{filled_items}
use Rattle.emit_measures.proofs.StoreLengths.{del_Name, del_Attr, del_Index, del_none, del_each}
use Rattle.emit_measures.proofs.target_lengths.delete_length.Goals as goal

pub returns-in-Name : goal.returns-in-Name
returns-in-Name c = rw (c.in-Name.is, del_Name) refl

pub returns-in-Attr : goal.returns-in-Attr
returns-in-Attr c = rw (c.in-Attr.is, del_Attr) refl

pub returns-in-Index : goal.returns-in-Index
returns-in-Index c = rw (c.in-Index.is, del_Index) (c.both.ensures _ _ c.expr_length.ensures c.expr_length-in-Index.ensures)

pub returns-then-is_empty : goal.returns-then-is_empty
returns-then-is_empty c = rw (c.in-Unpack.is, del_none c.args.locals.now c.in-Unpack.targets (c.is_empty.ensures.0 c.if-is_empty.true)) refl

pub returns-else-is_empty : goal.returns-else-is_empty
returns-else-is_empty c = rw (c.in-Unpack.is, del_each c.args.locals.now c.in-Unpack.targets (filled_items c.is_empty.result c.in-Unpack.targets c.is_empty.ensures c.if-is_empty.false)) refl
