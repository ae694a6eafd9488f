use Rattle.std.proofs.Common.{◌≡◌, ℕ, ◌+◌, length, map, sym, ap, refl, ◌∙◌, arith, drop}
use Rattle.std.specs.Prelude.{max}
use Rattle.py_tree.specs.declared.stmt.Handler.{out-Handler}
use Rattle.bc_scheme.specs.py_meaning.Tree.{Else}
use Rattle.bc_scheme.specs.py_meaning.Plain.{plain_expr, plain_stmt, also, part, block}
use Rattle.bc_scheme.specs.Heights.{tall}
use Rattle.emit_measures.specs.Limits.{saturated}
use Rattle.emit_measures.proofs.Numbers.{two, plus, at_least, behind}
use Rattle.emit_measures.proofs.Rows.{top, none_yet, one_more, one_here, whole, at_end, drop_item}
use Rattle.emit_measures.proofs.LayerHeights.{plain_Expr, plain_Assign, plain_Aug, plain_Del, plain_Return, plain_Raise, plain_Import, plain_From, plain_Assert, plain_If, plain_While, plain_For, plain_Try, plain_Def, returned, raised, block_in, block_row, branches_in, branches_row, handlers_in, tested, untested, passed, try_last}
use Rattle.emit_measures.proofs.statement_heights.+blocks.Goals as goal

pub block_height-loop-stmt-init : goal.block_height-loop-stmt-init
block_height-loop-stmt-init t c = none_yet (block_in c.args.level) c.args.stmts.now

pub block_height-loop-stmt-preserved : goal.block_height-loop-stmt-preserved
block_height-loop-stmt-preserved t c =
    one_more c.args.stmts.now c.loop-stmt.stmt-index c.stmt-item.result c.kind_height.result c.max-height.result (block_row c.args.level) c.loop-stmt.invariant c.loop-stmt-test.true c.stmt-item.is (λ n. c.kind_height.ensures (n + 0)) c.max-height.ensures

pub block_height-returns : goal.block_height-returns
block_height-returns t c n = whole c.args.stmts.now c.loop-stmt.stmt-index c.loop-stmt.invariant c.loop-stmt-test.false (λ m. refl) n

pub kind_height-returns-in-Expr : goal.kind_height-returns-in-Expr
kind_height-returns-in-Expr t c = rw (c.in-Expr.is, plain_Expr) (λ n. c.expr_height.ensures)

pub kind_height-returns-in-Assign : goal.kind_height-returns-in-Assign
kind_height-returns-in-Assign t c = rw (c.in-Assign.is, plain_Assign, ← c.as_slice.ensures) (λ n. c.assign_height.ensures c.args.level)

pub kind_height-returns-in-Aug : goal.kind_height-returns-in-Aug
kind_height-returns-in-Aug t c = rw (c.in-Aug.is, plain_Aug) (λ n. c.augmented_height.ensures c.args.level c.in-Aug.op)

pub kind_height-returns-in-Del : goal.kind_height-returns-in-Del
kind_height-returns-in-Del t c = rw (c.in-Del.is, plain_Del, ← c.as_slice-in-Del.ensures) (λ n. c.deletes_height.ensures c.args.level)

pub kind_height-returns-in-Return : goal.kind_height-returns-in-Return
kind_height-returns-in-Return t c = rw (c.in-Return.is, plain_Return) (λ n. c.option_height.ensures ∙ ap saturated (sym (returned c.args.level c.in-Return.value)))

pub kind_height-returns-in-Raise : goal.kind_height-returns-in-Raise
kind_height-returns-in-Raise t c = rw (c.in-Raise.is, plain_Raise) (λ n. c.option_height-in-Raise.ensures ∙ ap saturated (sym (raised c.args.level c.in-Raise.value)))

pub kind_height-returns-in-Import : goal.kind_height-returns-in-Import
kind_height-returns-in-Import t c = rw (c.in-Import.is, plain_Import, ← c.as_slice-in-Import.ensures) (λ n. c.import_height.ensures)

pub kind_height-returns-in-From : goal.kind_height-returns-in-From
kind_height-returns-in-From t c =
    let k = length c.in-From.names in
    let m : c.max.result ≡ max k 1 = c.max.ensures ∙ ap (λ z. max z 1) c.len.ensures in
    let a = c.saturating_add.ensures in
    rw (c.in-From.is, plain_From) (λ n. omega (arith, m, a))

pub kind_height-returns-in-Assert : goal.kind_height-returns-in-Assert
kind_height-returns-in-Assert t c = rw (c.in-Assert.is, plain_Assert) (λ n. c.assert_height.ensures)

pub kind_height-returns-in-If : goal.kind_height-returns-in-If
kind_height-returns-in-If t c =
    rw (c.in-If.is, plain_If, ← c.as_slice-in-If.ensures, ← c.as_slice-in-If-2.ensures)
    (λ n.
    let h = c.branches_height-tested.ensures (n + 0) (also (part Else) (block (map plain_stmt c.as_slice-in-If-2.result.now))) in
    c.max-in-If.ensures ∙ ap (max c.branches_height-tested.result) (c.block_height.ensures (h.0 + 0)) ∙ sym h.1)

pub kind_height-returns-in-While : goal.kind_height-returns-in-While
kind_height-returns-in-While t c =
    rw (c.in-While.is, plain_While, ← c.as_slice-in-While.ensures, ← c.as_slice-in-While-2.ensures)
    (λ n. c.max-in-While-2.ensures ∙ two top _ _ _ _ c.expr_height-in-While.ensures (c.max-in-While.ensures ∙ two top _ _ _ _ (c.block_height-inner.ensures _) (c.block_height-behind.ensures _)))

pub kind_height-returns-in-For : goal.kind_height-returns-in-For
kind_height-returns-in-For t c =
    rw (c.in-For.is, plain_For, ← c.as_slice-in-For.ensures, ← c.as_slice-in-For-2.ensures)
    (λ n.
    let first = c.max-first.ensures ∙ at_least top 5 _ _ c.expr_height-in-For.ensures (omega arith) in
    let stored = c.saturating_add-stored.ensures ∙ plus top 4 _ _ c.store_height.ensures in
    let inner = c.saturating_add-inner.ensures ∙ plus top 4 _ _ (c.block_height-in-For.ensures _) in
    c.max-in-For-3.ensures ∙ two top _ _ _ _ first (c.max-in-For-2.ensures ∙ two top _ _ _ _ stored (c.max-in-For.ensures ∙ two top _ _ _ _ inner (c.block_height-behind-in-For.ensures _))))

pub kind_height-returns-in-None : goal.kind_height-returns-in-None
kind_height-returns-in-None t c =
    rw (c.in-Try.is, c.in-None.is, plain_Try, ← c.as_slice-in-Try.ensures, ← c.as_slice-in-Try-2.ensures, ← c.as_slice-in-Try-3.ensures)
    (λ n. c.max-whole.ensures ∙ two top _ _ _ _ (c.block_height-tried.ensures _) (c.max-in-Try.ensures ∙ two top _ _ _ _ (c.handlers_height-caught.ensures _) (c.block_height-in-Try.ensures _)))

pub kind_height-returns-in-Some : goal.kind_height-returns-in-Some
kind_height-returns-in-Some t c =
    let level = c.args.level in
    let whole : c.max-whole.result ≡ max c.block_height-tried.result (max c.handlers_height-caught.result c.block_height-in-Try.result) = c.max-whole.ensures ∙ ap (max c.block_height-tried.result) c.max-in-Try.ensures in
    rw (c.in-Try.is, c.in-Some.is, plain_Try)
    (λ n. c.max-in-Some.ensures ∙ try_last level c.in-Try.body c.in-Try.rest c.in-Some.last c.in-Try.handlers c.is_empty.result c.is_empty.ensures
    c.block_height-tried.result c.handlers_height-caught.result c.block_height-in-Try.result c.saturating_add-ended.result c.covered.result
    (λ m. c.block_height-tried.ensures m ∙ ap (λ z. saturated (block_in level z m)) c.as_slice-in-Try.ensures)
    (λ m. c.handlers_height-caught.ensures m ∙ ap (λ z. saturated (handlers_in level z m)) c.as_slice-in-Try-2.ensures)
    (λ m. c.block_height-in-Try.ensures m ∙ ap (λ z. saturated (block_in level z m)) c.as_slice-in-Try-3.ensures)
    (λ m. c.saturating_add-ended.ensures ∙ plus top 1 _ _ (c.block_height-in-Some.ensures m ∙ ap (λ z. saturated (block_in level z m)) c.as_slice-in-Some.ensures))
    c.covered.ensures.bare (λ h. c.covered.ensures.caught h ∙ whole) n)

pub kind_height-returns-in-Def : goal.kind_height-returns-in-Def
kind_height-returns-in-Def t c = rw (c.in-Def.is, plain_Def, ← c.as_slice-in-Def.ensures) (λ n. c.defaults_height.ensures)

pub kind_height-returns-in-Pass : goal.kind_height-returns-in-Pass
kind_height-returns-in-Pass t c = passed c.args.level c.args.kind.now c.in-Pass.is

pub kind_height-returns-in-Pass-2 : goal.kind_height-returns-in-Pass-2
kind_height-returns-in-Pass-2 t c = passed c.args.level c.args.kind.now c.in-Pass.is

pub kind_height-returns-in-Pass-3 : goal.kind_height-returns-in-Pass-3
kind_height-returns-in-Pass-3 t c = passed c.args.level c.args.kind.now c.in-Pass.is

pub kind_height-returns-in-Pass-4 : goal.kind_height-returns-in-Pass-4
kind_height-returns-in-Pass-4 t c = passed c.args.level c.args.kind.now c.in-Pass.is

pub branches_height-loop-branch-init : goal.branches_height-loop-branch-init
branches_height-loop-branch-init t c rest = none_yet (branches_in c.args.level rest) c.args.branches.now

pub branches_height-loop-branch-preserved : goal.branches_height-loop-branch-preserved
branches_height-loop-branch-preserved t c rest =
    one_more c.args.branches.now c.loop-branch.branch-index c.branch-item.result c.max-own.result c.max-height.result (branches_row c.args.level rest) (c.loop-branch.invariant rest) c.loop-branch-test.true c.branch-item.is
    (λ n. c.max-own.ensures ∙ two top _ _ _ _ c.expr_height.ensures (c.block_height.ensures (n + 0) ∙ ap (λ z. saturated (block_in c.args.level z (n + 0))) c.as_slice.ensures)) c.max-height.ensures

pub branches_height-returns : goal.branches_height-returns
branches_height-returns t c n rest = at_end c.args.branches.now c.loop-branch.branch-index (c.loop-branch.invariant rest) c.loop-branch-test.false n

pub handlers_height-loop-handler-init : goal.handlers_height-loop-handler-init
handlers_height-loop-handler-init t c = none_yet (handlers_in c.args.level) c.args.handlers.now

pub handlers_height-loop-handler-preserved : goal.handlers_height-loop-handler-preserved
handlers_height-loop-handler-preserved t c =
    let hs = c.args.handlers.now in
    let i = c.loop-handler.handler-index in
    let x = c.handler-item.result in
    let inner : (n : ℕ) → c.block_height-inner.result ≡ saturated (block_in c.args.level (out-Handler x).body (n + 0)) =
    λ n. c.block_height-inner.ensures (n + 0) ∙ ap (λ z. saturated (block_in c.args.level z (n + 0))) c.as_slice.ensures in
    one_here hs i x (λ n. max (block_in c.args.level (out-Handler x).body (n + 0)) (2 + tall (plain_expr c.in-Some.test))) c.max-own.result c.max-height.result c.loop-handler.invariant c.loop-handler-test.true c.handler-item.is
    (tested c.args.level x c.in-Some.test c.in-Some.is (drop (i + 1) hs))
    (λ n. c.max-own.ensures ∙ two top _ _ _ _ (inner n) (c.saturating_add.ensures ∙ plus top 2 _ _ c.expr_height.ensures)) c.max-height.ensures

pub handlers_height-returns-in-None : goal.handlers_height-returns-in-None
handlers_height-returns-in-None t c n =
    let hs = c.args.handlers.now in
    let i = c.loop-handler.handler-index in
    let x = c.handler-item.result in
    let so = c.loop-handler.invariant.at n in
    let m = so.0 in
    let inner = c.block_height-inner.ensures (m + 0) ∙ ap (λ z. saturated (block_in c.args.level z (m + 0))) c.as_slice.ensures in
    let own = c.max.ensures ∙ behind top 1 _ _ inner (omega arith) in
    let here = drop_item hs i x c.loop-handler-test.true c.handler-item.is in
    let last = untested c.args.level x c.in-None.is (drop (i + 1) hs) m in
    c.max-in-None.ensures ∙ ap (max c.loop-handler.height) (own ∙ ap saturated (sym last) ∙ ap (λ z. saturated (handlers_in c.args.level z m)) (sym here)) ∙ sym so.1

pub handlers_height-returns : goal.handlers_height-returns
handlers_height-returns t c n =
    let so = at_end c.args.handlers.now c.loop-handler.handler-index c.loop-handler.invariant c.loop-handler-test.false n in
    c.max-2.ensures ∙ sym so.1
