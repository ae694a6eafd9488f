use Rattle.std.proofs.Common.{◌∙◌, [], map, refl, sym, ap}
use Rattle.emit_expr.specs.py_meaning.Tree.{ToName, ToEach}
use Rattle.emit_expr.specs.py_meaning.Plain.{plain_target, from_targets}
use Rattle.emit_stmt.specs.SimpleCrowded.{crowded_gone}
use Rattle.emit_expr.proofs.Forms.{on_ok}
use Rattle.emit_expr.proofs.Rows.{filled_items}
use Rattle.emit_stmt.proofs.SimpleRows.{no_items}
use Rattle.emit_stmt.proofs.Plains.{plain_ToName, plain_ToAttr, plain_ToIndex, plain_ToEach}
use Rattle.emit_stmt.proofs.StoreForms.{as_gone, name_gone, index_gone, none_gone, unpack_gone}
use Rattle.emit_stmt.proofs.targets.emit_deletion.Goals as goal

pub returns-in-Name : goal.returns-in-Name
returns-in-Name c = on_ok c.put_delete.result c.put_delete.ensures (λ p. as_gone (name_gone p) (ap plain_target c.in-Name.is ∙ plain_ToName c.in-Name.name ∙ ap ToName (sym c.bytes.ensures)))

pub returns-in_ok-put_plain-in-Index-2 : goal.returns-in_ok-put_plain-in-Index-2
returns-in_ok-put_plain-in-Index-2 c =
    on_ok c.put_plain-in-Index-2.result c.put_plain-in-Index-2.ensures (λ p. as_gone (index_gone c.in_ok-emit_expr-in-Index.ensures c.in_ok-emit_expr-in-Index-2.ensures c.in_ok-put_plain-in-Index.ensures c.in_ok-put_plain-in-Index-2.ensures p)
    (ap plain_target c.in-Index.is ∙ plain_ToIndex c.in-Index.object c.in-Index.index))

pub returns-in-Attr : goal.returns-in-Attr
returns-in-Attr c = as_gone (none_gone _ _ _ _ _ refl refl refl refl refl) (ap plain_target c.in-Attr.is ∙ plain_ToAttr c.in-Attr.object c.in-Attr.name)

pub returns-then-is_empty : goal.returns-then-is_empty
returns-then-is_empty c =
    on_ok c.put_delete-then-is_empty.result c.put_delete-then-is_empty.ensures (λ p. as_gone (name_gone p)
    (ap plain_target c.in-Unpack.is ∙ plain_ToEach c.in-Unpack.targets ∙ ap (λ z. from_targets (ToName []) ToEach (map plain_target z)) (no_items c.is_empty.result c.in-Unpack.targets c.is_empty.ensures c.if-is_empty.true)))

pub returns-else-is_empty : goal.returns-else-is_empty
returns-else-is_empty c =
    let plain = ap plain_target c.in-Unpack.is ∙ plain_ToEach c.in-Unpack.targets in
    none_gone _ _ _ _ _ (ap crowded_gone plain ∙ unpack_gone c.in-Unpack.targets (filled_items c.is_empty.result c.in-Unpack.targets c.is_empty.ensures c.if-is_empty.false)) refl refl refl refl
