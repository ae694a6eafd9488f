use Rattle.std.proofs.Common.{◌≡◌, ◌≤◌, ℕ, ◌+◌, ◌-◌, true, length, map, sym, ap, refl, ◌∙◌, arith, rules, drop}
use Rattle.py_tree.specs.declared.stmt.Branch.{out-Branch}
use Rattle.py_tree.specs.declared.stmt.Handler.{out-Handler}
use Rattle.bc_scheme.specs.py_meaning.Tree.{Else, NoHandler}
use Rattle.bc_scheme.specs.py_meaning.Plain.{plain_expr, plain_stmt, also, part, chain, block}
use Rattle.emit_measures.specs.Limits.{saturated, plain_handler}
use Rattle.emit_measures.proofs.Numbers.{told}
use Rattle.emit_measures.proofs.Rows.{top, drop_item, left_behind}
use Rattle.emit_measures.proofs.LayerHeights.{plain_Expr, plain_Assign, plain_Aug, plain_Del, plain_Break, plain_Continue, plain_Return, plain_Raise, plain_Import, plain_From, plain_Assert, plain_If, plain_While, plain_For, plain_Try, plain_Def}
use Rattle.emit_measures.specs.Lengths.{name_length, expr_length}
use Rattle.emit_measures.specs.Rows.{behind_wide, clause_wide}
use Rattle.emit_measures.proofs.Sums.{none_summed, one_summed, one_here, whole, at_end}
use Rattle.emit_measures.proofs.StoreLengths.{name_told}
use Rattle.emit_measures.proofs.LayerLengths.{passed, returned, raised, block_in, block_sum, branches_in, branches_sum, bare_is, handlers_in, tested, untested, try_last, unsaturated, no_more, clause_last, loop_last}
use Rattle.emit_measures.proofs.statement_lengths.+blocks.Goals as goal

pub block_length-loop-stmt-init : goal.block_length-loop-stmt-init
block_length-loop-stmt-init t c = none_summed (block_in c.args.locals.now c.args.level c.args.held c.args.iterator) c.args.stmts.now

pub block_length-loop-stmt-preserved : goal.block_length-loop-stmt-preserved
block_length-loop-stmt-preserved t c =
    one_summed c.args.stmts.now c.loop-stmt.stmt-index c.stmt-item.result c.kind_length-own.result c.saturating_add-length.result (block_sum c.args.locals.now c.args.level c.args.held c.args.iterator) c.loop-stmt.invariant c.loop-stmt-test.true c.stmt-item.is
    (λ n. c.kind_length-own.ensures (n + 0)) c.saturating_add-length.ensures

pub block_length-returns : goal.block_length-returns
block_length-returns t c n = whole c.args.stmts.now c.loop-stmt.stmt-index c.loop-stmt.invariant c.loop-stmt-test.false (λ m. refl) n

pub kind_length-returns-in-Expr : goal.kind_length-returns-in-Expr
kind_length-returns-in-Expr t c = rw (c.in-Expr.is, plain_Expr) (λ n. c.plus.ensures _ c.expr_length.ensures)

pub kind_length-returns-in-Assign : goal.kind_length-returns-in-Assign
kind_length-returns-in-Assign t c = rw (c.in-Assign.is, plain_Assign, ← c.as_slice.ensures) (λ n. c.assign_length.ensures c.args.level c.args.held c.args.iterator)

pub kind_length-returns-in-Aug : goal.kind_length-returns-in-Aug
kind_length-returns-in-Aug t c = rw (c.in-Aug.is, plain_Aug) (λ n. c.augmented_length.ensures c.args.level c.args.held c.args.iterator c.in-Aug.op)

pub kind_length-returns-in-Del : goal.kind_length-returns-in-Del
kind_length-returns-in-Del t c = rw (c.in-Del.is, plain_Del, ← c.as_slice-in-Del.ensures) (λ n. c.deletes_length.ensures c.args.level c.args.held c.args.iterator)

pub kind_length-returns-in-Return : goal.kind_length-returns-in-Return
kind_length-returns-in-Return t c = rw (c.in-Return.is, plain_Return) (λ n. c.option_length.ensures ∙ ap saturated (sym (returned c.args.locals.now c.args.level c.args.held c.args.iterator c.in-Return.value)))

pub kind_length-returns-in-Raise : goal.kind_length-returns-in-Raise
kind_length-returns-in-Raise t c = rw (c.in-Raise.is, plain_Raise) (λ n. c.option_length-in-Raise.ensures ∙ ap saturated (sym (raised c.args.locals.now c.args.level c.args.held c.args.iterator c.in-Raise.value)))

pub kind_length-returns-in-Import : goal.kind_length-returns-in-Import
kind_length-returns-in-Import t c = rw (c.in-Import.is, plain_Import, ← c.as_slice-in-Import.ensures) (λ n. c.imports_length.ensures)

pub kind_length-returns-in-From : goal.kind_length-returns-in-From
kind_length-returns-in-From t c = rw (c.in-From.is, plain_From, ← c.as_slice-in-From.ensures) (λ n. c.plus-in-From.ensures _ c.taken_length.ensures)

pub kind_length-returns-in-Assert : goal.kind_length-returns-in-Assert
kind_length-returns-in-Assert t c = rw (c.in-Assert.is, plain_Assert) (λ n. c.assert_length.ensures c.args.held c.args.iterator)

pub kind_length-returns-in-If : goal.kind_length-returns-in-If
kind_length-returns-in-If t c =
    let fits : c.branches_length-tested.result ≤ top = search rules in
    let rest = c.in-If.rest in
    rw (c.in-If.is, plain_If, ← c.as_slice-branches.ensures)
    (λ n.
    let h = c.branches_length-tested.ensures (n + 0) (also (part Else) (block (map plain_stmt rest))) (bare_is c.args.locals.now c.args.level rest c.is_empty-bare.result c.is_empty-bare.ensures) in
    let behind = c.block_length-behind.ensures (h.0 + 0) ∙ ap (λ z. saturated (block_in c.args.locals.now c.args.level c.args.held c.args.iterator z (h.0 + 0))) c.as_slice-in-If.ensures in
    c.both.ensures _ _ (told top c.branches_length-tested.result fits) behind ∙ no_more c.branches_length-tested.result (block_in c.args.locals.now c.args.level c.args.held c.args.iterator rest (h.0 + 0)) ∙ sym h.1)

pub kind_length-returns-in-While : goal.kind_length-returns-in-While
kind_length-returns-in-While t c =
    rw (c.in-While.is, plain_While, ← c.as_slice-in-While.ensures, ← c.as_slice-in-While-2.ensures)
    (λ n. c.three.ensures _ _ _ c.expr_length-in-While.ensures (c.block_length-inner.ensures _) (c.block_length-behind-in-While.ensures _))

pub kind_length-returns-in-For : goal.kind_length-returns-in-For
kind_length-returns-in-For t c =
    rw (c.in-For.is, plain_For, ← c.as_slice-in-For.ensures, ← c.as_slice-in-For-2.ensures)
    (λ n. c.three-in-For.ensures _ _ _ (c.both-first.ensures _ _ c.expr_length-in-For.ensures c.store_length.ensures) (c.block_length-inner-in-For.ensures _) (c.block_length-behind-in-For.ensures _) ∙ loop_last _ _ _ _)

pub kind_length-returns-in-None : goal.kind_length-returns-in-None
kind_length-returns-in-None t c =
    rw (c.in-Try.is, c.in-None.is, plain_Try, ← c.as_slice-in-Try.ensures, ← c.as_slice-in-Try-2.ensures, ← c.as_slice-in-None.ensures)
    (λ n. c.three-in-None.ensures _ _ _ (c.block_length-tried.ensures _) (c.handlers_length-caught.ensures _) (c.block_length-behind-in-None.ensures _))

pub kind_length-returns-in-Some : goal.kind_length-returns-in-Some
kind_length-returns-in-Some t c =
    let locals = c.args.locals.now in
    let level = c.args.level in
    let iterator = c.args.iterator in
    let body = c.in-Try.body in
    let hs = c.in-Try.handlers in
    let rest = c.in-Try.rest in
    rw (c.in-Try.is, c.in-Some.is, plain_Try)
    (try_last locals level iterator c.args.held body rest c.in-Some.last hs c.is_empty.result c.is_empty.ensures
    c.block_length-tried.result c.three-whole.result c.block_length-ended.result c.covered.result
    (λ m. c.block_length-tried.ensures m ∙ ap (λ z. saturated (block_in locals level true iterator z m)) c.as_slice-in-Try.ensures)
    (λ m.
    let first = m + (0 + (block (map plain_stmt body)).defs) in
    let second = m + (0 + (block (map plain_stmt body)).defs + (chain (map plain_handler hs) (part NoHandler)).defs) in
    c.three-whole.ensures _ _ _ (c.block_length-tried.ensures (m + 0) ∙ ap (λ z. saturated (block_in locals level true iterator z (m + 0))) c.as_slice-in-Try.ensures)
    (c.handlers_length-caught.ensures first ∙ ap (λ z. saturated (handlers_in locals level iterator z first)) c.as_slice-in-Try-2.ensures)
    (c.block_length-behind-in-Some.ensures second ∙ ap (λ z. saturated (block_in locals level true iterator z second)) c.as_slice-in-Some.ensures))
    (λ m. c.block_length-ended.ensures m ∙ ap (λ z. saturated (block_in locals level true iterator z m)) c.as_slice-in-Some-2.ensures)
    c.covered.ensures.bare c.covered.ensures.caught c.both-in-Some.result c.both-in-Some.ensures)

pub kind_length-returns-in-Def : goal.kind_length-returns-in-Def
kind_length-returns-in-Def t c =
    let own = name_told c.args.locals.now _ c.name_length-own.result (c.name_length-own.ensures ∙ ap (name_length c.args.locals.now) c.bytes.ensures) in
    rw (c.in-Def.is, plain_Def, ← c.as_slice-in-Def.ensures) (λ n. c.both-in-Def.ensures _ _ c.defaults_length.ensures own ∙ no_more _ _)

pub kind_length-returns-in-Break : goal.kind_length-returns-in-Break
kind_length-returns-in-Break t c = rw (c.in-Break.is, plain_Break) (λ n. unsaturated c.args.held c.args.iterator c.exit_length.result c.exit_length.ensures)

pub kind_length-returns-in-Continue : goal.kind_length-returns-in-Continue
kind_length-returns-in-Continue t c = rw (c.in-Continue.is, plain_Continue) (λ n. unsaturated c.args.held _ c.exit_length-in-Continue.result c.exit_length-in-Continue.ensures)

pub kind_length-returns-in-Pass : goal.kind_length-returns-in-Pass
kind_length-returns-in-Pass t c = passed c.args.locals.now c.args.level c.args.held c.args.iterator c.args.kind.now c.in-Pass.is

pub kind_length-returns-in-Pass-2 : goal.kind_length-returns-in-Pass-2
kind_length-returns-in-Pass-2 t c = passed c.args.locals.now c.args.level c.args.held c.args.iterator c.args.kind.now c.in-Pass.is

pub branches_length-loop-branch-init : goal.branches_length-loop-branch-init
branches_length-loop-branch-init t c = record { left = let n = length c.args.branches.now in omega arith; so_far = λ rest h. none_summed (branches_in c.args.locals.now c.args.level c.args.held c.args.iterator rest) c.args.branches.now }

pub branches_length-loop-branch-preserved : goal.branches_length-loop-branch-preserved
branches_length-loop-branch-preserved t c =
    let bs = c.args.branches.now in
    let i = c.loop-branch.branch-index in
    let h = c.loop-branch.invariant.left in
    let l = c.loop-branch-test.true in
    let left = c.loop-branch.left - 1 in
    let behind = left_behind bs i left (omega (arith, h, l)) in
    let x = c.branch-item.result in
    let inner : (n : ℕ) → c.block_length-inner.result ≡ saturated (block_in c.args.locals.now c.args.level c.args.held c.args.iterator (out-Branch x).body (n + 0)) =
    λ n. c.block_length-inner.ensures (n + 0) ∙ ap (λ z. saturated (block_in c.args.locals.now c.args.level c.args.held c.args.iterator z (n + 0))) c.as_slice.ensures in
    let jump : c.behind_length.result ≡ behind_wide (length (drop (i + 1) bs)) c.args.bare = c.behind_length.ensures ∙ ap (λ k. behind_wide k c.args.bare) behind in
    record {
      left = omega (arith, h, l);
      so_far = λ rest over.
          one_summed bs i x c.plus-own.result c.saturating_add-length.result (branches_sum c.args.locals.now c.args.level c.args.held c.args.iterator rest c.args.bare over) (c.loop-branch.invariant.so_far rest over) l c.branch-item.is
          (λ n. c.plus-own.ensures _ (c.both.ensures _ _ c.expr_length-tested.ensures (inner n))
          ∙ ap (λ k. saturated (expr_length c.args.locals.now (plain_expr (out-Branch x).test) + block_in c.args.locals.now c.args.level c.args.held c.args.iterator (out-Branch x).body (n + 0) + 3 + k)) jump) c.saturating_add-length.ensures;
    }

pub branches_length-returns : goal.branches_length-returns
branches_length-returns t c n rest over = at_end c.args.branches.now c.loop-branch.branch-index (c.loop-branch.invariant.so_far rest over) c.loop-branch-test.false n

pub handlers_length-loop-handler-init : goal.handlers_length-loop-handler-init
handlers_length-loop-handler-init t c = none_summed (handlers_in c.args.locals.now c.args.level c.args.iterator) c.args.handlers.now

pub handlers_length-loop-handler-preserved : goal.handlers_length-loop-handler-preserved
handlers_length-loop-handler-preserved t c =
    let hs = c.args.handlers.now in
    let i = c.loop-handler.handler-index in
    let x = c.handler-item.result in
    let own = λ (n : ℕ). expr_length c.args.locals.now (plain_expr c.in-Some.test) + block_in c.args.locals.now c.args.level true c.args.iterator (out-Handler x).body (n + 0) in
    let inner : (n : ℕ) → c.block_length-inner.result ≡ saturated (block_in c.args.locals.now c.args.level true c.args.iterator (out-Handler x).body (n + 0)) =
    λ n. c.block_length-inner.ensures (n + 0) ∙ ap (λ z. saturated (block_in c.args.locals.now c.args.level true c.args.iterator z (n + 0))) c.as_slice.ensures in
    one_here hs i x (λ n. own n + clause_wide c.args.locals.now (out-Handler x).name) c.both-own.result c.saturating_add-length.result c.loop-handler.invariant c.loop-handler-test.true c.handler-item.is
    (tested c.args.locals.now c.args.level c.args.iterator x c.in-Some.test c.in-Some.is (drop (i + 1) hs))
    (λ n. c.both-own.ensures _ _ c.expr_length-tested.ensures (inner n) ∙ ap (λ k. saturated (own n + k)) c.clause_length.ensures) c.saturating_add-length.ensures

pub handlers_length-returns-in-None : goal.handlers_length-returns-in-None
handlers_length-returns-in-None t c n =
    let hs = c.args.handlers.now in
    let i = c.loop-handler.handler-index in
    let x = c.handler-item.result in
    let s = c.loop-handler.invariant in
    let so = s.at n in
    let inner = c.block_length-inner.ensures (so.0 + 0) ∙ ap (λ z. saturated (block_in c.args.locals.now c.args.level true c.args.iterator z (so.0 + 0))) c.as_slice.ensures in
    let here = drop_item hs i x c.loop-handler-test.true c.handler-item.is in
    let last = untested c.args.locals.now c.args.level c.args.iterator x c.in-None.is (drop (i + 1) hs) so.0 in
    c.both.ensures _ _ (told top c.loop-handler.length s.few) inner
    ∙ clause_last c.loop-handler.length (block_in c.args.locals.now c.args.level true c.args.iterator (out-Handler x).body (so.0 + 0))
    ∙ ap (λ z. saturated (c.loop-handler.length + z)) (sym last ∙ ap (λ z. handlers_in c.args.locals.now c.args.level c.args.iterator z so.0) (sym here)) ∙ sym so.1

pub handlers_length-returns : goal.handlers_length-returns
handlers_length-returns t c n = whole c.args.handlers.now c.loop-handler.handler-index c.loop-handler.invariant c.loop-handler-test.false (λ m. refl) n
