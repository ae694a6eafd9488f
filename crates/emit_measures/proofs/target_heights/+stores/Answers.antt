use Rattle.std.proofs.Common.{◌≡◌, ◌+◌, ◌-◌, ◌≤◌, length, sym, ap, refl, ◌∙◌, arith, rules, drop}
use Rattle.bc_scheme.specs.py_meaning.Plain.{plain_target}
use Rattle.bc_scheme.specs.Heights.{tall_store}
use Rattle.emit_measures.specs.Limits.{saturated}
use Rattle.emit_measures.proofs.Numbers.{two, plus, sum, told}
use Rattle.emit_measures.proofs.Rows.{top, none_yet, one_more, whole, left_behind, filled_items}
use Rattle.emit_measures.proofs.StoreHeights.{tall_ToName, tall_ToAttr, tall_ToIndex, tall_ToEach, none_stored, stores_in, stores_row}
use Rattle.emit_measures.proofs.target_heights.+stores.Goals as goal

pub store_height-returns-in-Name : goal.store_height-returns-in-Name
store_height-returns-in-Name t c = rw (c.in-Name.is, tall_ToName) refl

pub store_height-returns-in-Attr : goal.store_height-returns-in-Attr
store_height-returns-in-Attr t c = rw (c.in-Attr.is, tall_ToAttr) (c.saturating_add.ensures ∙ plus top 1 _ _ c.expr_height.ensures)

pub store_height-returns-in-Index : goal.store_height-returns-in-Index
store_height-returns-in-Index t c = rw (c.in-Index.is, tall_ToIndex) (c.saturating_add-in-Index.ensures ∙ plus top 1 _ _ (c.over.ensures _ _ c.expr_height-in-Index.ensures c.expr_height-in-Index-2.ensures))

pub store_height-returns-then-is_empty : goal.store_height-returns-then-is_empty
store_height-returns-then-is_empty t c = rw (c.in-Unpack.is, none_stored c.in-Unpack.targets (c.is_empty.ensures.0 c.if-is_empty.true)) refl

pub store_height-returns-else-is_empty : goal.store_height-returns-else-is_empty
store_height-returns-else-is_empty t c =
    let ts = c.in-Unpack.targets in
    let some = filled_items c.is_empty.result ts c.is_empty.ensures c.if-is_empty.false in
    let h : c.len.result ≤ top = search rules in
    let count : c.len.result ≡ saturated (length ts) = told top c.len.result h ∙ ap saturated c.len.ensures in
    c.max.ensures ∙ two top (length ts) _ _ _ count (c.stores_height.ensures ∙ ap (λ z. saturated (stores_in z 0)) c.as_slice.ensures) ∙ ap saturated (sym (tall_ToEach ts some)) ∙ ap (λ z. saturated (tall_store (plain_target z))) (sym c.in-Unpack.is)

pub stores_height-loop-target-init : goal.stores_height-loop-target-init
stores_height-loop-target-init t c = record { left = let n = length c.args.targets.now in omega arith; so_far = none_yet stores_in c.args.targets.now }

pub stores_height-loop-target-preserved : goal.stores_height-loop-target-preserved
stores_height-loop-target-preserved t c =
    let ts = c.args.targets.now in
    let i = c.loop-target.target-index in
    let h = c.loop-target.invariant.left in
    let l = c.loop-target-test.true in
    let left = c.loop-target.left - 1 in
    let fits : c.loop-target.left ≤ top = search rules in
    let behind = left_behind ts i left (omega (arith, h, l)) in
    let count : left ≡ saturated (length (drop (i + 1) ts)) = told top left (omega (arith, fits)) ∙ ap saturated behind in
    let own = c.saturating_add.ensures ∙ sum top _ _ _ _ count c.store_height.ensures in
    record {
      left = omega (arith, h, l);
      so_far = one_more ts i c.target-item.result c.saturating_add.result c.max-height.result stores_row c.loop-target.invariant.so_far l c.target-item.is (λ n. own) c.max-height.ensures;
    }

pub stores_height-returns : goal.stores_height-returns
stores_height-returns t c = whole c.args.targets.now c.loop-target.target-index c.loop-target.invariant.so_far c.loop-target-test.false (λ m. refl) 0
