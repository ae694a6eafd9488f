use Rattle.std.proofs.Common.{◌∙◌, refl, sym, ap, arith}
use Rattle.emit_expr.specs.py_meaning.Tree.{ToName, ToAttr}
use Rattle.emit_expr.specs.py_meaning.Plain.{plain_expr, plain_target}
use Rattle.emit_expr.proofs.Forms.{on_ok}
use Rattle.emit_expr.proofs.Rows.{drop_item, empty_slice, filled_slice}
use Rattle.emit_stmt.proofs.SimpleRows.{row_begun, row_step, row_done}
use Rattle.emit_stmt.proofs.Plains.{plain_ToName, plain_ToAttr, plain_ToIndex, plain_ToEach}
use Rattle.emit_stmt.proofs.StoreForms.{as_target, name_store, attr_store, index_store, each_store, no_store}
use Rattle.emit_stmt.proofs.targets.+targets.Goals as goal

pub emit_target-returns-in-Name : goal.emit_target-returns-in-Name
emit_target-returns-in-Name t c =
    on_ok c.put_store.result c.put_store.ensures (λ p. as_target (name_store p) (ap plain_target c.in-Name.is ∙ plain_ToName c.in-Name.name ∙ ap ToName (sym c.bytes.ensures)))

pub emit_target-returns-in_ok-emit_expr-in-Attr : goal.emit_target-returns-in_ok-emit_expr-in-Attr
emit_target-returns-in_ok-emit_expr-in-Attr t c =
    on_ok c.put_named.result c.put_named.ensures (λ p. as_target (attr_store c.in_ok-emit_expr-in-Attr.ensures p)
    (ap plain_target c.in-Attr.is ∙ plain_ToAttr c.in-Attr.object c.in-Attr.name ∙ ap (ToAttr (plain_expr c.in-Attr.object)) (sym c.bytes-in-Attr.ensures)))

pub emit_target-returns-in_ok-emit_expr-in-Index-2 : goal.emit_target-returns-in_ok-emit_expr-in-Index-2
emit_target-returns-in_ok-emit_expr-in-Index-2 t c =
    on_ok c.put_plain.result c.put_plain.ensures (λ p. as_target (index_store c.in_ok-emit_expr-in-Index.ensures c.in_ok-emit_expr-in-Index-2.ensures p)
    (ap plain_target c.in-Index.is ∙ plain_ToIndex c.in-Index.object c.in-Index.index))

pub emit_target-returns-in-Unpack : goal.emit_target-returns-in-Unpack
emit_target-returns-in-Unpack t c = rw (c.in-Unpack.is, plain_ToEach, ← c.as_slice.ensures) c.emit_each.ensures

pub emit_each-returns-then-is_empty : goal.emit_each-returns-then-is_empty
emit_each-returns-then-is_empty t c =
    on_ok c.put_store.result c.put_store.ensures (λ p. no_store c.args.targets.now (empty_slice c.args.targets.now c.is_empty.result c.is_empty.ensures c.if-is_empty.true) refl p)

pub emit_each-loop-target-init : goal.emit_each-loop-target-init
emit_each-loop-target-init t c = row_begun _ _ _ _ _

pub emit_each-loop-target-preserved : goal.emit_each-loop-target-preserved
emit_each-loop-target-preserved t c =
    row_step c.args.targets.now c.loop-target.target-index c.target-item.result c.loop-target.invariant c.in_ok-emit_target.ensures.by
    (drop_item c.args.targets.now c.loop-target.target-index c.target-item.result (omega arith) c.target-item.is)

pub emit_each-returns : goal.emit_each-returns
emit_each-returns t c =
    each_store c.args.targets.now (filled_slice c.args.targets.now c.is_empty.result c.is_empty.ensures c.if-is_empty.false) refl c.in_ok-put_items.ensures
    (row_done c.args.targets.now c.loop-target.target-index c.loop-target.invariant (omega arith))
