use Rattle.std.proofs.Common.{◌≡◌, ◌+◌, ◌-◌, ◌≤◌, map, length, sym, ap, refl, ◌∙◌, arith, rules, drop}
use Rattle.std.specs.Prelude.{max, min}
use Rattle.bc_scheme.specs.py_meaning.Plain.{plain_expr, exprs}
use Rattle.bc_scheme.specs.Heights.{tall, tall_above}
use Rattle.emit_measures.specs.Limits.{saturated, slots_of}
use Rattle.emit_measures.proofs.Numbers.{two, plus, told, at_least}
use Rattle.emit_measures.proofs.Rows.{top, none_yet, one_more, whole, none_over, one_over, whole_over, left_behind, doubled, empty_slice, filled_slice}
use Rattle.emit_measures.proofs.PlainHeights.{tall_Unary, tall_Not, tall_Attr, tall_Binary, tall_Index, tall_And, tall_Or, tall_Compare, tall_Cond, tall_Tuple, tall_List, tall_Dict, tall_Call, few, leaf, no_operand, operands_tall, tallest_in, tallest_row, pairs_in, pairs_row, links_in, links_row, row_in, row_pile, keys_in, keys_pile}
use Rattle.emit_measures.proofs.expr_heights.+heights.Goals as goal

pub expr_height-returns-in-Unary : goal.expr_height-returns-in-Unary
expr_height-returns-in-Unary t c = rw (c.in-Unary.is, tall_Unary, ← c.get.ensures) c.expr_height.ensures

pub expr_height-returns-in-Not : goal.expr_height-returns-in-Not
expr_height-returns-in-Not t c = rw (c.in-Not.is, tall_Not, ← c.get-in-Not.ensures) c.expr_height-in-Not.ensures

pub expr_height-returns-in-Attr : goal.expr_height-returns-in-Attr
expr_height-returns-in-Attr t c = rw (c.in-Attr.is, tall_Attr, ← c.get-in-Attr.ensures) c.expr_height-in-Attr.ensures

pub expr_height-returns-in-Binary : goal.expr_height-returns-in-Binary
expr_height-returns-in-Binary t c = rw (c.in-Binary.is, tall_Binary, ← c.get-in-Binary.ensures, ← c.get-in-Binary-2.ensures) (c.over.ensures _ _ c.expr_height-in-Binary.ensures c.expr_height-in-Binary-2.ensures)

pub expr_height-returns-in-Index : goal.expr_height-returns-in-Index
expr_height-returns-in-Index t c = rw (c.in-Index.is, tall_Index, ← c.get-in-Index.ensures, ← c.get-in-Index-2.ensures) (c.over-in-Index.ensures _ _ c.expr_height-in-Index.ensures c.expr_height-in-Index-2.ensures)

pub expr_height-returns-in-And : goal.expr_height-returns-in-And
expr_height-returns-in-And t c = rw (c.in-And.is, tall_And, ← c.as_slice.ensures) c.joined_height.ensures

pub expr_height-returns-in-Or : goal.expr_height-returns-in-Or
expr_height-returns-in-Or t c = rw (c.in-Or.is, tall_Or, ← c.as_slice-in-Or.ensures) c.joined_height-in-Or.ensures

pub expr_height-returns-in-Compare : goal.expr_height-returns-in-Compare
expr_height-returns-in-Compare t c = rw (c.in-Compare.is, tall_Compare, ← c.get-in-Compare.ensures, ← c.as_slice-in-Compare.ensures) (c.max.ensures ∙ two top _ _ _ _ c.expr_height-in-Compare.ensures c.links_height.ensures)

pub expr_height-returns-in-Cond : goal.expr_height-returns-in-Cond
expr_height-returns-in-Cond t c =
    rw (c.in-Cond.is, tall_Cond, ← c.get-in-Cond.ensures, ← c.get-in-Cond-2.ensures, ← c.get-in-Cond-3.ensures)
    (c.max-in-Cond-2.ensures ∙ two top _ _ _ _ c.expr_height-in-Cond.ensures (c.max-in-Cond.ensures ∙ two top _ _ _ _ c.expr_height-in-Cond-2.ensures c.expr_height-in-Cond-3.ensures))

pub expr_height-returns-in-Tuple : goal.expr_height-returns-in-Tuple
expr_height-returns-in-Tuple t c = rw (c.in-Tuple.is, tall_Tuple, ← c.as_slice-in-Tuple.ensures) (c.max-in-Tuple.ensures ∙ at_least top 1 _ _ c.row_height.ensures (omega arith))

pub expr_height-returns-in-List : goal.expr_height-returns-in-List
expr_height-returns-in-List t c = rw (c.in-List.is, tall_List, ← c.as_slice-in-List.ensures) (c.max-in-List.ensures ∙ at_least top 1 _ _ c.row_height-in-List.ensures (omega arith))

pub expr_height-returns-in-Dict : goal.expr_height-returns-in-Dict
expr_height-returns-in-Dict t c = rw (c.in-Dict.is, tall_Dict, ← c.as_slice-in-Dict.ensures) (c.max-in-Dict.ensures ∙ at_least top 1 _ _ c.pairs_height.ensures (omega arith))

pub expr_height-returns-in-Call : goal.expr_height-returns-in-Call
expr_height-returns-in-Call t c =
    let x = plain_expr c.get-callee.result.now in
    let args = c.as_slice-args.result.now in
    let slots : c.callee_slots-slots.result ≡ saturated (slots_of x) = c.callee_slots-slots.ensures ∙ told top (slots_of x) (let h = few x in omega arith) in
    let called = c.max-called.ensures ∙ two top (tall x) (slots_of x) _ _ c.expr_height-in-Call.ensures slots in
    let row : c.row_height-given.result ≡ saturated (tall_above (slots_of x) (exprs (map plain_expr args))) =
    c.row_height-given.ensures ∙ ap (λ n. saturated (tall_above n (exprs (map plain_expr args)))) c.callee_slots-slots.ensures in
    let given = c.max-in-Call.ensures ∙ two top _ _ _ _ called row in
    let below : c.saturating_add-below.result ≡ saturated (slots_of x + length args) = c.saturating_add-below.ensures ∙ ap (λ n. min (n + length args) top) c.callee_slots-slots.ensures in
    rw (c.in-Call.is, tall_Call, ← c.get-callee.ensures, ← c.as_slice-args.ensures, ← c.as_slice-in-Call.ensures)
    (c.max-in-Call-2.ensures ∙ two top _ _ _ _ given (c.keys_height.ensures (slots_of x + length args) below))

pub expr_height-returns-in-None : goal.expr_height-returns-in-None
expr_height-returns-in-None t c = leaf c.args.expr.now c.in-None.is

pub expr_height-returns-in-None-2 : goal.expr_height-returns-in-None-2
expr_height-returns-in-None-2 t c = leaf c.args.expr.now c.in-None.is

pub expr_height-returns-in-None-3 : goal.expr_height-returns-in-None-3
expr_height-returns-in-None-3 t c = leaf c.args.expr.now c.in-None.is

pub expr_height-returns-in-None-4 : goal.expr_height-returns-in-None-4
expr_height-returns-in-None-4 t c = leaf c.args.expr.now c.in-None.is

pub expr_height-returns-in-None-5 : goal.expr_height-returns-in-None-5
expr_height-returns-in-None-5 t c = leaf c.args.expr.now c.in-None.is

pub expr_height-returns-in-None-6 : goal.expr_height-returns-in-None-6
expr_height-returns-in-None-6 t c = leaf c.args.expr.now c.in-None.is

pub joined_height-returns-then-is_empty : goal.joined_height-returns-then-is_empty
joined_height-returns-then-is_empty t c = no_operand c.args.items.now (empty_slice c.args.items.now c.is_empty.result c.is_empty.ensures c.if-is_empty.true)

pub joined_height-returns : goal.joined_height-returns
joined_height-returns t c = c.tallest.ensures ∙ ap saturated (sym (operands_tall c.args.items.now (filled_slice c.args.items.now c.is_empty.result c.is_empty.ensures c.if-is_empty.false)))

pub keys_height-loop-value-init : goal.keys_height-loop-value-init
keys_height-loop-value-init t c n e = none_over keys_in n c.args.below c.args.keys.now e

pub keys_height-loop-value-preserved : goal.keys_height-loop-value-preserved
keys_height-loop-value-preserved t c n e =
    one_over c.args.keys.now c.loop-value.value-index c.loop-value-item.result c.saturating_add-own.result c.max-height.result c.saturating_add-slots.result keys_pile (c.loop-value.invariant n e) c.loop-value-test.true c.loop-value-item.is
    (c.saturating_add-own.ensures ∙ plus top 1 _ _ c.expr_height.ensures) (c.max-height.ensures ∙ ap (max c.loop-value.height) c.saturating_add.ensures) c.saturating_add-slots.ensures

pub keys_height-returns : goal.keys_height-returns
keys_height-returns t c n e = whole_over c.args.keys.now c.loop-value.value-index (c.loop-value.invariant n e) c.loop-value-test.false (λ m. refl)

pub links_height-loop-value-init : goal.links_height-loop-value-init
links_height-loop-value-init t c = record { left = let n = length c.args.links.now in omega arith; so_far = none_yet links_in c.args.links.now }

pub links_height-loop-value-preserved : goal.links_height-loop-value-preserved
links_height-loop-value-preserved t c =
    let links = c.args.links.now in
    let i = c.loop-value.value-index in
    let h = c.loop-value.invariant.left in
    let l = c.loop-value-test.true in
    let behind = left_behind links i (c.loop-value.left - 1) (omega (arith, h, l)) in
    let own = c.max.ensures ∙ two top _ _ _ _ (doubled 3 (drop (i + 1) links) (c.loop-value.left - 1) c.if_left-doubled.result behind c.if_left-doubled.ensures.some c.if_left-doubled.ensures.none (omega arith))
    (c.saturating_add-own.ensures ∙ plus top 1 _ _ c.expr_height.ensures) in
    record {
      left = omega (arith, h, l);
      so_far = one_more links i c.loop-value-item.result c.max.result c.max-height.result links_row c.loop-value.invariant.so_far l c.loop-value-item.is (λ n. own) c.max-height.ensures;
    }

pub links_height-returns : goal.links_height-returns
links_height-returns t c = whole c.args.links.now c.loop-value.value-index c.loop-value.invariant.so_far c.loop-value-test.false (λ m. refl) 0

pub pairs_height-loop-key-init : goal.pairs_height-loop-key-init
pairs_height-loop-key-init t c = none_yet pairs_in c.args.pairs.now

pub pairs_height-loop-key-preserved : goal.pairs_height-loop-key-preserved
pairs_height-loop-key-preserved t c =
    one_more c.args.pairs.now c.loop-key.key-index c.loop-key-item.result c.max.result c.max-height.result pairs_row c.loop-key.invariant c.loop-key-test.true c.loop-key-item.is
    (λ n. c.max.ensures ∙ two top _ _ _ _ (c.saturating_add-first.ensures ∙ plus top 1 _ _ c.expr_height.ensures) (c.saturating_add-second.ensures ∙ plus top 2 _ _ c.expr_height-in-loop-key.ensures)) c.max-height.ensures

pub pairs_height-returns : goal.pairs_height-returns
pairs_height-returns t c = whole c.args.pairs.now c.loop-key.key-index c.loop-key.invariant c.loop-key-test.false (λ m. refl) 0

pub row_height-loop-item-init : goal.row_height-loop-item-init
row_height-loop-item-init t c = let h : c.args.below ≤ top = search rules in none_over row_in c.args.below c.args.below c.args.items.now (told top c.args.below h)

pub row_height-loop-item-preserved : goal.row_height-loop-item-preserved
row_height-loop-item-preserved t c =
    one_over c.args.items.now c.loop-item.item-index c.item-item.result c.expr_height.result c.max-height.result c.saturating_add-slots.result row_pile c.loop-item.invariant c.loop-item-test.true c.item-item.is
    c.expr_height.ensures (c.max-height.ensures ∙ ap (max c.loop-item.height) c.saturating_add.ensures) c.saturating_add-slots.ensures

pub row_height-returns : goal.row_height-returns
row_height-returns t c = whole_over c.args.items.now c.loop-item.item-index c.loop-item.invariant c.loop-item-test.false (λ m. refl)

pub tallest-loop-item-init : goal.tallest-loop-item-init
tallest-loop-item-init t c = none_yet tallest_in c.args.items.now

pub tallest-loop-item-preserved : goal.tallest-loop-item-preserved
tallest-loop-item-preserved t c = one_more c.args.items.now c.loop-item.item-index c.item-item.result c.expr_height.result c.max-height.result tallest_row c.loop-item.invariant c.loop-item-test.true c.item-item.is (λ n. c.expr_height.ensures) c.max-height.ensures

pub tallest-returns : goal.tallest-returns
tallest-returns t c = whole c.args.items.now c.loop-item.item-index c.loop-item.invariant c.loop-item-test.false (λ m. refl) 0
