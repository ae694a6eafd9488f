use Rattle.std.proofs.Common.{◌+◌, sym, ap, refl, ◌∙◌}
use Rattle.bc_scheme.specs.py_meaning.Plain.{plain_expr}
use Rattle.emit_measures.specs.Limits.{saturated}
use Rattle.emit_measures.specs.Lengths.{expr_length}
use Rattle.emit_measures.proofs.Sums.{none_summed, one_summed, whole}
use Rattle.emit_measures.proofs.PlainLengths.{len_Compare, len_Dict, len_Call, row_in, row_sum, joined_len, beside_is, links_in, links_sum, operands_in, operands_sum, pairs_in, pairs_sum, keys_in, keys_sum}
use Rattle.emit_measures.proofs.expr_lengths.+lengths.Goals as goal

pub expr_length-returns-in-Compare : goal.expr_length-returns-in-Compare
expr_length-returns-in-Compare t c = rw (c.in-Compare.is, len_Compare, ← c.get-in-Compare.ensures, ← c.as_slice-in-Compare.ensures) (c.both-in-Compare.ensures _ _ c.expr_length-compared.ensures c.links_length.ensures)

pub expr_length-returns-in-Dict : goal.expr_length-returns-in-Dict
expr_length-returns-in-Dict t c = rw (c.in-Dict.is, len_Dict, ← c.as_slice-in-Dict.ensures) (c.plus-in-Dict.ensures _ c.pairs_length.ensures)

pub expr_length-returns-in-Call : goal.expr_length-returns-in-Call
expr_length-returns-in-Call t c =
    rw (c.in-Call.is, len_Call, ← c.get-in-Call.ensures, ← c.as_slice-in-Call.ensures, ← c.as_slice-in-Call-2.ensures) (c.three-in-Call.ensures _ _ _ c.expr_length-called.ensures c.row_length-given.ensures c.keys_length.ensures)

pub joined_length-loop-item-init : goal.joined_length-loop-item-init
joined_length-loop-item-init t c = none_summed (operands_in c.args.locals.now) c.in-Some.rest.now

pub joined_length-loop-item-preserved : goal.joined_length-loop-item-preserved
joined_length-loop-item-preserved t c =
    one_summed c.in-Some.rest.now c.loop-item.item-index c.item-item.result c.plus.result c.saturating_add-length.result (operands_sum c.args.locals.now) c.loop-item.invariant c.loop-item-test.true c.item-item.is
    (λ n. c.plus.ensures _ c.expr_length.ensures) c.saturating_add-length.ensures

pub joined_length-returns : goal.joined_length-returns
joined_length-returns t c =
    let rest = whole c.in-Some.rest.now c.loop-item.item-index c.loop-item.invariant c.loop-item-test.false (λ m. refl) 0 in
    c.both.ensures _ _ c.expr_length-own.ensures rest ∙ ap saturated (sym (joined_len c.args.locals.now c.args.items.now c.in-Some.rest.now c.in-Some.first.now c.in-Some.ensures.cases.0))

pub links_length-loop-op-init : goal.links_length-loop-op-init
links_length-loop-op-init t c = none_summed (links_in c.args.locals.now c.beside_links-beside.result) c.args.links.now

pub links_length-loop-op-preserved : goal.links_length-loop-op-preserved
links_length-loop-op-preserved t c =
    one_summed c.args.links.now c.loop-op.op-index c.loop-op-item.result c.plus-own.result c.saturating_add-length.result (links_sum c.args.locals.now c.beside_links-beside.result) c.loop-op.invariant c.loop-op-test.true c.loop-op-item.is
    (λ n. c.plus-own.ensures _ (c.plus.ensures _ c.expr_length.ensures) ∙ ap (λ k. saturated (expr_length c.args.locals.now (plain_expr c.loop-op-item.result.1) + c.beside_links-beside.result + k)) c.comparison_length.ensures) c.saturating_add-length.ensures

pub links_length-returns : goal.links_length-returns
links_length-returns t c =
    let b = c.beside_links-beside.ensures in
    whole c.args.links.now c.loop-op.op-index c.loop-op.invariant c.loop-op-test.false (λ m. refl) 0
    ∙ ap saturated (beside_is c.args.locals.now c.beside_links-beside.result c.args.links.now b.one b.many)

pub row_length-loop-item-init : goal.row_length-loop-item-init
row_length-loop-item-init t c = none_summed (row_in c.args.locals.now) c.args.items.now

pub row_length-loop-item-preserved : goal.row_length-loop-item-preserved
row_length-loop-item-preserved t c =
    one_summed c.args.items.now c.loop-item.item-index c.item-item.result c.expr_length.result c.saturating_add-length.result (row_sum c.args.locals.now) c.loop-item.invariant c.loop-item-test.true c.item-item.is (λ n. c.expr_length.ensures) c.saturating_add-length.ensures

pub row_length-returns : goal.row_length-returns
row_length-returns t c = whole c.args.items.now c.loop-item.item-index c.loop-item.invariant c.loop-item-test.false (λ m. refl) 0

pub pairs_length-loop-key-init : goal.pairs_length-loop-key-init
pairs_length-loop-key-init t c = none_summed (pairs_in c.args.locals.now) c.args.pairs.now

pub pairs_length-loop-key-preserved : goal.pairs_length-loop-key-preserved
pairs_length-loop-key-preserved t c =
    one_summed c.args.pairs.now c.loop-key.key-index c.loop-key-item.result c.both-own.result c.saturating_add-length.result (pairs_sum c.args.locals.now) c.loop-key.invariant c.loop-key-test.true c.loop-key-item.is
    (λ n. c.both-own.ensures _ _ c.expr_length.ensures c.expr_length-in-loop-key.ensures) c.saturating_add-length.ensures

pub pairs_length-returns : goal.pairs_length-returns
pairs_length-returns t c = whole c.args.pairs.now c.loop-key.key-index c.loop-key.invariant c.loop-key-test.false (λ m. refl) 0

pub keys_length-loop-value-init : goal.keys_length-loop-value-init
keys_length-loop-value-init t c = none_summed (keys_in c.args.locals.now) c.args.keys.now

pub keys_length-loop-value-preserved : goal.keys_length-loop-value-preserved
keys_length-loop-value-preserved t c =
    one_summed c.args.keys.now c.loop-value.value-index c.loop-value-item.result c.plus.result c.saturating_add-length.result (keys_sum c.args.locals.now) c.loop-value.invariant c.loop-value-test.true c.loop-value-item.is
    (λ n. c.plus.ensures _ c.expr_length.ensures) c.saturating_add-length.ensures

pub keys_length-returns : goal.keys_length-returns
keys_length-returns t c = whole c.args.keys.now c.loop-value.value-index c.loop-value.invariant c.loop-value-test.false (λ m. refl) 0
