use Rattle.std.proofs.Common.{◌∙◌, ℤ, map, true, false, refl, sym, ap, subst, arith, rules, SFits, w32}
use Rattle.std.proofs.lemmas.Int.{to_z-of_z}
use Rattle.emit_draft.specs.bc_scheme.bc_ops.declared.instr.Instr.TheVariants as instrs
use Rattle.emit_draft.specs.bc_scheme.bc_machine.Library.{Item, Plain}
use Rattle.mpy_base.specs.Val.{Nil, Truth, Int, Str}
use Rattle.emit_draft.specs.bc_scheme.Context.{constant}
use Rattle.emit_draft.specs.bc_scheme.py_meaning.Tree.{Constant, Named, Unary, Not, Binary, Cond, TupleOf, ListOf, DictOf, Attr, Index}
use Rattle.emit_draft.specs.bc_scheme.py_meaning.Plain.{plain_expr, exprs, operands, compares, pairs_of, keys_of, call_of}
use Rattle.emit_expr.specs.Emits.{joins, plain_links, plain_pairs, plain_keys}
use Rattle.emit_expr.proofs.Plains.{plain_None, plain_True, plain_False, plain_Int, plain_Str, plain_Name, plain_Unary, plain_Not, plain_Binary, plain_And, plain_Or, plain_Compare, plain_Cond, plain_Tuple, plain_List, plain_Dict, plain_Attr, plain_Index, plain_Call, IsCalled, others_called, compare_called}
use Rattle.emit_expr.proofs.Forms.{on_ok, as_plain, as_callee, puts_item, literal_emits, name_emits, unary_emits, not_emits, attr_emits, binary_emits, index_emits, other_free, end_free, cond_emits, tuple_emits, list_emits, dict_emits, function_emits, method_emits, call_emits, compare_emits}
use Rattle.emit_expr.proofs.Counts.{count_plain, pairs_plain, keys_plain}
use Rattle.emit_expr.proofs.Rows.{drop_item, all_begun, all_step, all_done, keys_begun, keys_step, keys_done, pairs_begun, pairs_step, pairs_done, joined_begun, joined_step, joined_free, joined_whole, no_operands, no_links, empty_slice, filled_slice, filled_items, plain_filled, links_begun, links_step, links_all, links_last, one_link, many_links, chain_fail_free, chain_end_free}
use Rattle.emit_expr.proofs.expr.+expressions.Goals as goal

-- ---- one expression

pub emit_expr-returns-in-None : goal.emit_expr-returns-in-None
emit_expr-returns-in-None t c = on_ok c.put.result c.put.ensures (λ p. as_plain (literal_emits {v = Nil} (puts_item c.args.scope.now (constant Nil) p (λ labels. refl))) (ap plain_expr c.in-None.is ∙ plain_None))

pub emit_expr-returns-in-True : goal.emit_expr-returns-in-True
emit_expr-returns-in-True t c = on_ok c.put-in-True.result c.put-in-True.ensures (λ p. as_plain (literal_emits {v = Truth true} (puts_item c.args.scope.now (constant (Truth true)) p (λ labels. refl))) (ap plain_expr c.in-True.is ∙ plain_True))

pub emit_expr-returns-in-False : goal.emit_expr-returns-in-False
emit_expr-returns-in-False t c = on_ok c.put-in-False.result c.put-in-False.ensures (λ p. as_plain (literal_emits {v = Truth false} (puts_item c.args.scope.now (constant (Truth false)) p (λ labels. refl))) (ap plain_expr c.in-False.is ∙ plain_False))

pub emit_expr-returns-in-Int : goal.emit_expr-returns-in-Int
emit_expr-returns-in-Int t c =
    let n = c.in-Int.n in
    let fits : SFits w32 c.in-Int.n = search rules in
    let int : ℤ → Item = λ z. Plain (instrs.Int z) in
    on_ok c.put-in-Int.result c.put-in-Int.ensures (λ p. as_plain (literal_emits {v = Int n} (puts_item c.args.scope.now (constant (Int n)) p (λ labels. ap int (to_z-of_z w32 n fits)))) (ap plain_expr c.in-Int.is ∙ plain_Int n))

pub emit_expr-returns-in-Str : goal.emit_expr-returns-in-Str
emit_expr-returns-in-Str t c = on_ok c.put_str.result c.put_str.ensures (λ p. as_plain (literal_emits (p c.args.scope.now)) (ap plain_expr c.in-Str.is ∙ plain_Str c.in-Str.text ∙ ap (λ z. Constant (Str z)) (sym c.bytes.ensures)))

pub emit_expr-returns-in-Name : goal.emit_expr-returns-in-Name
emit_expr-returns-in-Name t c = on_ok c.put_load.result c.put_load.ensures (λ p. as_plain (name_emits p) (ap plain_expr c.in-Name.is ∙ plain_Name c.in-Name.name ∙ ap Named (sym c.bytes-in-Name.ensures)))

pub emit_expr-returns-in_ok-emit_expr-in-Unary : goal.emit_expr-returns-in_ok-emit_expr-in-Unary
emit_expr-returns-in_ok-emit_expr-in-Unary t c =
    on_ok c.put-in-Unary.result c.put-in-Unary.ensures (λ p. as_plain (unary_emits c.in-Unary.op c.unary_number-number.ensures c.in_ok-emit_expr-in-Unary.ensures p)
    (ap plain_expr c.in-Unary.is ∙ plain_Unary c.in-Unary.op c.in-Unary.value ∙ ap (λ z. Unary c.in-Unary.op (plain_expr z)) (sym c.get.ensures)))

pub emit_expr-returns-in_ok-emit_expr-in-Not : goal.emit_expr-returns-in_ok-emit_expr-in-Not
emit_expr-returns-in_ok-emit_expr-in-Not t c =
    on_ok c.put-in-Not.result c.put-in-Not.ensures (λ p. as_plain (not_emits c.in_ok-emit_expr-in-Not.ensures p)
    (ap plain_expr c.in-Not.is ∙ plain_Not c.in-Not.value ∙ ap (λ z. Not (plain_expr z)) (sym c.get-in-Not.ensures)))

pub emit_expr-returns-in_ok-emit_expr-in-Binary-2 : goal.emit_expr-returns-in_ok-emit_expr-in-Binary-2
emit_expr-returns-in_ok-emit_expr-in-Binary-2 t c =
    on_ok c.put-in-Binary.result c.put-in-Binary.ensures (λ p. as_plain (binary_emits c.in-Binary.op c.arithmetic_number-number.ensures.number c.in_ok-emit_expr-in-Binary.ensures c.in_ok-emit_expr-in-Binary-2.ensures p)
    (ap plain_expr c.in-Binary.is ∙ plain_Binary c.in-Binary.op c.in-Binary.left c.in-Binary.right
    ∙ ap (λ z. Binary c.in-Binary.op (plain_expr z) (plain_expr c.in-Binary.right)) (sym c.get-in-Binary.ensures)
    ∙ ap (λ z. Binary c.in-Binary.op (plain_expr c.get-in-Binary.result.now) (plain_expr z)) (sym c.get-in-Binary-2.ensures)))

pub emit_expr-returns-in-And : goal.emit_expr-returns-in-And
emit_expr-returns-in-And t c = rw (c.in-And.is, plain_And, ← c.as_slice.ensures) c.emit_joined.ensures

pub emit_expr-returns-in-Or : goal.emit_expr-returns-in-Or
emit_expr-returns-in-Or t c = rw (c.in-Or.is, plain_Or, ← c.as_slice-in-Or.ensures) c.emit_joined-in-Or.ensures

pub emit_expr-returns-in_ok-emit_expr-in-Compare : goal.emit_expr-returns-in_ok-emit_expr-in-Compare
emit_expr-returns-in_ok-emit_expr-in-Compare t c =
    on_ok c.emit_links.result c.emit_links.ensures (λ p. as_plain (compare_emits c.in_ok-emit_expr-in-Compare.ensures p)
    (ap plain_expr c.in-Compare.is ∙ plain_Compare c.in-Compare.first c.in-Compare.rest
    ∙ ap (λ z. compares (plain_expr z) (plain_links c.in-Compare.rest)) (sym c.get-in-Compare.ensures)
    ∙ ap (λ z. compares (plain_expr c.get-in-Compare.result.now) (plain_links z)) (sym c.as_slice-in-Compare.ensures)))

pub emit_expr-bind-requires : goal.emit_expr-bind-requires
emit_expr-bind-requires t c = other_free c.in_ok-other-in-Cond.ensures c.in_ok-end-in-Cond.ensures c.in_ok-put-in-Cond.ensures c.in_ok-emit_expr-in-Cond-2.ensures c.in_ok-put-in-Cond-2.ensures

pub emit_expr-bind-requires-in-Cond : goal.emit_expr-bind-requires-in-Cond
emit_expr-bind-requires-in-Cond t c =
    end_free c.in_ok-other-in-Cond.ensures c.in_ok-end-in-Cond.ensures c.in_ok-put-in-Cond.ensures c.in_ok-emit_expr-in-Cond-2.ensures c.in_ok-put-in-Cond-2.ensures c.bind.ensures c.in_ok-emit_expr-in-Cond-3.ensures

pub emit_expr-returns-in_ok-emit_expr-in-Cond-3 : goal.emit_expr-returns-in_ok-emit_expr-in-Cond-3
emit_expr-returns-in_ok-emit_expr-in-Cond-3 t c =
    as_plain (cond_emits c.in_ok-emit_expr-in-Cond.ensures c.in_ok-other-in-Cond.ensures c.in_ok-end-in-Cond.ensures c.in_ok-put-in-Cond.ensures c.in_ok-emit_expr-in-Cond-2.ensures c.in_ok-put-in-Cond-2.ensures c.bind.ensures c.in_ok-emit_expr-in-Cond-3.ensures c.bind-in-Cond.ensures)
    (ap plain_expr c.in-Cond.is ∙ plain_Cond c.in-Cond.test c.in-Cond.yes c.in-Cond.no
    ∙ ap (λ z. Cond (plain_expr z) (plain_expr c.in-Cond.yes) (plain_expr c.in-Cond.no)) (sym c.get-in-Cond.ensures)
    ∙ ap (λ z. Cond (plain_expr c.get-in-Cond.result.now) (plain_expr z) (plain_expr c.in-Cond.no)) (sym c.get-in-Cond-2.ensures)
    ∙ ap (λ z. Cond (plain_expr c.get-in-Cond.result.now) (plain_expr c.get-in-Cond-2.result.now) (plain_expr z)) (sym c.get-in-Cond-3.ensures))

pub emit_expr-returns-in_ok-emit_all-in-Tuple : goal.emit_expr-returns-in_ok-emit_all-in-Tuple
emit_expr-returns-in_ok-emit_all-in-Tuple t c =
    on_ok c.put_items.result c.put_items.ensures (λ p. as_plain (tuple_emits c.in_ok-emit_all-in-Tuple.ensures (c.len.ensures ∙ sym (count_plain c.in-Tuple.items) ∙ ap (λ z. Rattle.emit_draft.specs.bc_scheme.py_meaning.Tree.count (exprs (map plain_expr z))) (sym c.as_slice-in-Tuple.ensures)) p)
    (ap plain_expr c.in-Tuple.is ∙ plain_Tuple c.in-Tuple.items ∙ ap (λ z. TupleOf (exprs (map plain_expr z))) (sym c.as_slice-in-Tuple.ensures)))

pub emit_expr-returns-in_ok-emit_all-in-List : goal.emit_expr-returns-in_ok-emit_all-in-List
emit_expr-returns-in_ok-emit_all-in-List t c =
    on_ok c.put_items-in-List.result c.put_items-in-List.ensures (λ p. as_plain (list_emits c.in_ok-emit_all-in-List.ensures (c.len-in-List.ensures ∙ sym (count_plain c.in-List.items) ∙ ap (λ z. Rattle.emit_draft.specs.bc_scheme.py_meaning.Tree.count (exprs (map plain_expr z))) (sym c.as_slice-in-List.ensures)) p)
    (ap plain_expr c.in-List.is ∙ plain_List c.in-List.items ∙ ap (λ z. ListOf (exprs (map plain_expr z))) (sym c.as_slice-in-List.ensures)))

pub emit_expr-returns-in_ok-put_items-in-Dict : goal.emit_expr-returns-in_ok-put_items-in-Dict
emit_expr-returns-in_ok-put_items-in-Dict t c =
    on_ok c.emit_pairs.result c.emit_pairs.ensures (λ p. as_plain (dict_emits (c.len-in-Dict.ensures ∙ sym (pairs_plain c.in-Dict.pairs) ∙ ap (λ z. Rattle.emit_draft.specs.bc_scheme.py_meaning.Tree.pair_count (pairs_of (plain_pairs z))) (sym c.as_slice-in-Dict.ensures)) c.in_ok-put_items-in-Dict.ensures p)
    (ap plain_expr c.in-Dict.is ∙ plain_Dict c.in-Dict.pairs ∙ ap (λ z. DictOf (pairs_of (plain_pairs z))) (sym c.as_slice-in-Dict.ensures)))

pub emit_expr-returns-in_ok-emit_expr-in-Attr : goal.emit_expr-returns-in_ok-emit_expr-in-Attr
emit_expr-returns-in_ok-emit_expr-in-Attr t c =
    on_ok c.put_named.result c.put_named.ensures (λ p. as_plain (attr_emits c.in_ok-emit_expr-in-Attr.ensures p)
    (ap plain_expr c.in-Attr.is ∙ plain_Attr c.in-Attr.object c.in-Attr.name
    ∙ ap (λ z. Attr (plain_expr z) c.in-Attr.name) (sym c.get-in-Attr.ensures) ∙ ap (Attr (plain_expr c.get-in-Attr.result.now)) (sym c.bytes-in-Attr.ensures)))

pub emit_expr-returns-in_ok-emit_expr-in-Index-2 : goal.emit_expr-returns-in_ok-emit_expr-in-Index-2
emit_expr-returns-in_ok-emit_expr-in-Index-2 t c =
    on_ok c.put-in-Index.result c.put-in-Index.ensures (λ p. as_plain (index_emits c.in_ok-emit_expr-in-Index.ensures c.in_ok-emit_expr-in-Index-2.ensures p)
    (ap plain_expr c.in-Index.is ∙ plain_Index c.in-Index.object c.in-Index.index
    ∙ ap (λ z. Index (plain_expr z) (plain_expr c.in-Index.index)) (sym c.get-in-Index.ensures)
    ∙ ap (λ z. Index (plain_expr c.get-in-Index.result.now) (plain_expr z)) (sym c.get-in-Index-2.ensures)))

pub emit_expr-returns-in_ok-emit_keys-in-Call : goal.emit_expr-returns-in_ok-emit_keys-in-Call
emit_expr-returns-in_ok-emit_keys-in-Call t c =
    on_ok c.put_call.result c.put_call.ensures (λ p. as_plain (call_emits c.in_ok-op-in-Call.ensures c.in_ok-emit_all-in-Call.ensures c.in_ok-emit_keys-in-Call.ensures
    (c.len-in-Call.ensures ∙ sym (count_plain c.in-Call.args) ∙ ap (λ z. Rattle.emit_draft.specs.bc_scheme.py_meaning.Tree.count (exprs (map plain_expr z))) (sym c.as_slice-in-Call.ensures))
    (c.len-in-Call-2.ensures ∙ sym (keys_plain c.in-Call.keys) ∙ ap (λ z. Rattle.emit_draft.specs.bc_scheme.py_meaning.Tree.key_count (keys_of (plain_keys z))) (sym c.as_slice-in-Call-2.ensures)) p)
    (ap plain_expr c.in-Call.is ∙ plain_Call c.in-Call.callee c.in-Call.args c.in-Call.keys
    ∙ ap (λ z. call_of (plain_expr z) (exprs (map plain_expr c.in-Call.args)) (keys_of (plain_keys c.in-Call.keys))) (sym c.get-in-Call.ensures)
    ∙ ap (λ z. call_of (plain_expr c.get-in-Call.result.now) (exprs (map plain_expr z)) (keys_of (plain_keys c.in-Call.keys))) (sym c.as_slice-in-Call.ensures)
    ∙ ap (λ z. call_of (plain_expr c.get-in-Call.result.now) (exprs (map plain_expr c.as_slice-in-Call.result.now)) (keys_of (plain_keys z))) (sym c.as_slice-in-Call-2.ensures)))

-- ---- rows

pub emit_all-loop-item-init : goal.emit_all-loop-item-init
emit_all-loop-item-init t c = all_begun _ _ _ _

pub emit_all-loop-item-preserved : goal.emit_all-loop-item-preserved
emit_all-loop-item-preserved t c =
    all_step c.args.items.now c.loop-item.item-index c.item-item.result c.loop-item.invariant c.in_ok-emit_expr.ensures (drop_item c.args.items.now c.loop-item.item-index c.item-item.result (omega arith) c.item-item.is)

pub emit_all-returns : goal.emit_all-returns
emit_all-returns t c = all_done c.args.items.now c.loop-item.item-index c.loop-item.invariant (omega arith)

pub emit_keys-loop-name-init : goal.emit_keys-loop-name-init
emit_keys-loop-name-init t c = keys_begun _ _ _ _

pub emit_keys-loop-name-preserved : goal.emit_keys-loop-name-preserved
emit_keys-loop-name-preserved t c =
    keys_step c.args.keys.now c.loop-name.name-index c.loop-name-item.result c.loop-name.invariant c.bytes.ensures c.in_ok-put_named.ensures c.in_ok-emit_expr.ensures (drop_item c.args.keys.now c.loop-name.name-index c.loop-name-item.result (omega arith) c.loop-name-item.is)

pub emit_keys-returns : goal.emit_keys-returns
emit_keys-returns t c = keys_done c.args.keys.now c.loop-name.name-index c.loop-name.invariant (omega arith)

pub emit_pairs-loop-key-init : goal.emit_pairs-loop-key-init
emit_pairs-loop-key-init t c = pairs_begun _ _ _ _

pub emit_pairs-loop-key-preserved : goal.emit_pairs-loop-key-preserved
emit_pairs-loop-key-preserved t c =
    pairs_step c.args.pairs.now c.loop-key.key-index c.loop-key-item.result c.loop-key.invariant c.in_ok-emit_expr.ensures c.in_ok-emit_expr-2.ensures c.in_ok-put.ensures (drop_item c.args.pairs.now c.loop-key.key-index c.loop-key-item.result (omega arith) c.loop-key-item.is)

pub emit_pairs-returns : goal.emit_pairs-returns
emit_pairs-returns t c = pairs_done c.args.pairs.now c.loop-key.key-index c.loop-key.invariant (omega arith)

-- ---- operands

pub emit_joined-loop-item-init : goal.emit_joined-loop-item-init
emit_joined-loop-item-init t c = joined_begun _ _ _ _ _ _

pub emit_joined-loop-item-preserved : goal.emit_joined-loop-item-preserved
emit_joined-loop-item-preserved t c =
    joined_step c.in-Some.rest.now c.loop-item.item-index c.item-item.result c.loop-item.invariant c.in_ok-put.ensures c.in_ok-emit_expr-2.ensures (drop_item c.in-Some.rest.now c.loop-item.item-index c.item-item.result c.loop-item-test.true c.item-item.is)

pub emit_joined-bind-requires : goal.emit_joined-bind-requires
emit_joined-bind-requires t c = joined_free c.in_ok-end.ensures c.loop-item.invariant

pub emit_joined-returns-in_default : goal.emit_joined-returns-in_default
emit_joined-returns-in_default t c =
    on_ok c.put.result c.put.ensures (λ p. as_plain (literal_emits {v = Nil} (puts_item c.args.scope.now (constant Nil) p (λ labels. refl))) (no_operands (joins c.args.connective) c.args.items.now c.in_default.ensures.cases))

pub emit_joined-returns : goal.emit_joined-returns
emit_joined-returns t c =
    joined_whole c.args.connective c.jump-op.result c.args.items.now c.in-Some.rest.now c.in-Some.first.now c.loop-item.item-index c.jump-op.ensures c.in-Some.ensures.cases.0
    c.in_ok-emit_expr.ensures c.in_ok-end.ensures c.loop-item.invariant c.loop-item-test.false c.bind.ensures

-- ---- links

pub emit_links-returns-in_default : goal.emit_links-returns-in_default
emit_links-returns-in_default t c = no_links c.args.draft.now c.args.scope.now c.args.line c.args.links.now c.in_default.ensures.cases

pub emit_links-loop-op-init : goal.emit_links-loop-op-init
emit_links-loop-op-init t c = links_begun _ _ _ _ _

pub emit_links-loop-op-preserved : goal.emit_links-loop-op-preserved
emit_links-loop-op-preserved t c =
    links_step c.in-Some.front.now c.loop-op.op-index c.loop-op-item.result c.loop-op.invariant c.in_ok-emit_expr.ensures c.in_ok-put.ensures c.in_ok-put-2.ensures (c.in_ok-put_comparison.ensures c.args.scope.now) c.in_ok-put-3.ensures
    (drop_item c.in-Some.front.now c.loop-op.op-index c.loop-op-item.result c.loop-op-test.true c.loop-op-item.is)

pub emit_links-returns-then-is_empty : goal.emit_links-returns-then-is_empty
emit_links-returns-then-is_empty t c =
    one_link c.args.links.now c.in-Some.front.now c.in-Some.last.now c.in-Some.ensures.cases.0 (empty_slice c.in-Some.front.now c.is_empty.result c.is_empty.ensures c.if-is_empty.true)
    (links_last c.in_ok-fail.ensures (links_all c.in-Some.front.now c.loop-op.op-index c.loop-op.invariant c.loop-op-test.false) c.in_ok-emit_expr-2.ensures (c.in_ok-put_comparison-2.ensures c.args.scope.now))

pub emit_links-bind-requires : goal.emit_links-bind-requires
emit_links-bind-requires t c =
    chain_fail_free (links_last c.in_ok-fail.ensures (links_all c.in-Some.front.now c.loop-op.op-index c.loop-op.invariant c.loop-op-test.false) c.in_ok-emit_expr-2.ensures (c.in_ok-put_comparison-2.ensures c.args.scope.now))
    c.in_ok-end.ensures c.in_ok-put-4.ensures

pub emit_links-bind-requires-2 : goal.emit_links-bind-requires-2
emit_links-bind-requires-2 t c =
    chain_end_free (links_last c.in_ok-fail.ensures (links_all c.in-Some.front.now c.loop-op.op-index c.loop-op.invariant c.loop-op-test.false) c.in_ok-emit_expr-2.ensures (c.in_ok-put_comparison-2.ensures c.args.scope.now))
    c.in_ok-end.ensures c.in_ok-put-4.ensures c.bind.ensures c.in_ok-put-5.ensures c.in_ok-put-6.ensures

pub emit_links-returns : goal.emit_links-returns
emit_links-returns t c =
    many_links c.args.links.now c.in-Some.front.now c.in-Some.last.now c.in-Some.ensures.cases.0 (filled_slice c.in-Some.front.now c.is_empty.result c.is_empty.ensures c.if-is_empty.false)
    (links_last c.in_ok-fail.ensures (links_all c.in-Some.front.now c.loop-op.op-index c.loop-op.invariant c.loop-op-test.false) c.in_ok-emit_expr-2.ensures (c.in_ok-put_comparison-2.ensures c.args.scope.now))
    c.in_ok-end.ensures c.in_ok-put-4.ensures c.bind.ensures c.in_ok-put-5.ensures c.in_ok-put-6.ensures c.bind-2.ensures

-- ---- callees

pub emit_callee-returns-in_ok-put_named-in-Attr : goal.emit_callee-returns-in_ok-put_named-in-Attr
emit_callee-returns-in_ok-put_named-in-Attr t c =
    as_callee (method_emits c.in_ok-emit_expr-in-Attr.ensures c.in_ok-put_named-in-Attr.ensures)
    (ap plain_expr c.in-Attr.is ∙ plain_Attr c.in-Attr.object c.in-Attr.name ∙ ap (λ z. Attr (plain_expr z) c.in-Attr.name) (sym c.get.ensures) ∙ ap (Attr (plain_expr c.get.result.now)) (sym c.bytes.ensures))

pub emit_callee-returns-in_ok-emit_expr-in-Compare : goal.emit_callee-returns-in_ok-emit_expr-in-Compare
emit_callee-returns-in_ok-emit_expr-in-Compare t c =
    let compared = compare_called (plain_expr c.in-Compare.first) (plain_links c.in-Compare.rest) (plain_filled c.in-Compare.rest (filled_items c.is_empty.result c.in-Compare.rest c.is_empty.ensures c.if-is_empty.false)) in
    function_emits (subst IsCalled (sym (ap plain_expr c.in-Compare.is ∙ plain_Compare c.in-Compare.first c.in-Compare.rest)) compared) c.in_ok-emit_expr-in-Compare.ensures

pub emit_callee-returns-in_ok-emit_expr-in_default : goal.emit_callee-returns-in_ok-emit_expr-in_default
emit_callee-returns-in_ok-emit_expr-in_default t c = function_emits (others_called c.args.callee.now c.in_default.not-Attr c.in_default.not-Compare) c.in_ok-emit_expr-in_default.ensures
