use Rattle.std.proofs.Common.{[], refl, ap, sym, ◌∙◌}
use Rattle.bc_scheme.specs.py_meaning.Plain.{plain_target}
use Rattle.emit_measures.specs.Limits.{saturated}
use Rattle.emit_measures.proofs.Rows.{filled_items}
use Rattle.emit_measures.specs.Lengths.{name_length, store_length}
use Rattle.emit_measures.proofs.Sums.{none_summed, one_summed, whole}
use Rattle.emit_measures.proofs.StoreLengths.{name_told, len_Name, len_Attr, len_Index, len_none, len_each, stores_in, stores_sum}
use Rattle.emit_measures.proofs.target_lengths.+stores.Goals as goal

pub store_length-returns-in-Name : goal.store_length-returns-in-Name
store_length-returns-in-Name t c = rw (c.in-Name.is, len_Name) (name_told c.args.locals.now _ c.name_length.result (c.name_length.ensures ∙ ap (name_length c.args.locals.now) c.bytes.ensures))

pub store_length-returns-in-Attr : goal.store_length-returns-in-Attr
store_length-returns-in-Attr t c = rw (c.in-Attr.is, len_Attr) (c.plus.ensures _ c.expr_length.ensures)

pub store_length-returns-in-Index : goal.store_length-returns-in-Index
store_length-returns-in-Index t c = rw (c.in-Index.is, len_Index) (c.both.ensures _ _ c.expr_length-in-Index.ensures c.expr_length-in-Index-2.ensures)

pub store_length-returns-then-is_empty : goal.store_length-returns-then-is_empty
store_length-returns-then-is_empty t c = name_told c.args.locals.now [] c.name_length-then-is_empty.result c.name_length-then-is_empty.ensures ∙ ap saturated (sym (len_none c.args.locals.now c.in-Unpack.targets (c.is_empty.ensures.0 c.if-is_empty.true))) ∙ ap (λ z. saturated (store_length c.args.locals.now (plain_target z))) (sym c.in-Unpack.is)

pub store_length-returns-else-is_empty : goal.store_length-returns-else-is_empty
store_length-returns-else-is_empty t c =
    let ts = c.in-Unpack.targets in
    c.plus-in-Unpack.ensures _ (c.stores_length.ensures ∙ ap (λ z. saturated (stores_in c.args.locals.now z 0)) c.as_slice.ensures)
    ∙ ap saturated (sym (len_each c.args.locals.now ts (filled_items c.is_empty.result ts c.is_empty.ensures c.if-is_empty.false))) ∙ ap (λ z. saturated (store_length c.args.locals.now (plain_target z))) (sym c.in-Unpack.is)

pub stores_length-loop-target-init : goal.stores_length-loop-target-init
stores_length-loop-target-init t c = none_summed (stores_in c.args.locals.now) c.args.targets.now

pub stores_length-loop-target-preserved : goal.stores_length-loop-target-preserved
stores_length-loop-target-preserved t c =
    one_summed c.args.targets.now c.loop-target.target-index c.target-item.result c.store_length.result c.saturating_add-length.result (stores_sum c.args.locals.now) c.loop-target.invariant c.loop-target-test.true c.target-item.is (λ n. c.store_length.ensures) c.saturating_add-length.ensures

pub stores_length-returns : goal.stores_length-returns
stores_length-returns t c = whole c.args.targets.now c.loop-target.target-index c.loop-target.invariant c.loop-target-test.false (λ m. refl) 0
