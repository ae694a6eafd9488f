use Rattle.std.proofs.Common.{◌≡◌, ℕ, ◌+◌, map, sym, ap, refl, ◌∙◌, arith, drop}
use Rattle.std.specs.Prelude.{max, min}
use Rattle.py_tree.specs.declared.stmt.Handler.{out-Handler}
use Rattle.bc_scheme.specs.py_meaning.Tree.{Else}
use Rattle.bc_scheme.specs.py_meaning.Plain.{plain_stmt, also, part, block}
use Rattle.emit_measures.specs.Limits.{saturated, named}
use Rattle.emit_measures.proofs.Numbers.{two, plus, sum}
use Rattle.emit_measures.proofs.Rows.{top, none_yet, one_more, one_here, whole, at_end, drop_item}
use Rattle.emit_measures.proofs.LayerHeights.{plain_If, plain_While, plain_For, plain_Try, block_held, held_row, branches_held, branches_held_row, handlers_held, tested_held, untested_held, named_few, held_try, held_others}
use Rattle.emit_measures.proofs.entries.+entries.Goals as goal

pub block_entries-loop-stmt-init : goal.block_entries-loop-stmt-init
block_entries-loop-stmt-init t c = none_yet block_held c.args.stmts.now

pub block_entries-loop-stmt-preserved : goal.block_entries-loop-stmt-preserved
block_entries-loop-stmt-preserved t c =
    one_more c.args.stmts.now c.loop-stmt.stmt-index c.stmt-item.result c.kind_entries.result c.max-entries.result held_row c.loop-stmt.invariant c.loop-stmt-test.true c.stmt-item.is (λ n. c.kind_entries.ensures (n + 0)) c.max-entries.ensures

pub block_entries-returns : goal.block_entries-returns
block_entries-returns t c n = whole c.args.stmts.now c.loop-stmt.stmt-index c.loop-stmt.invariant c.loop-stmt-test.false (λ m. refl) n

pub kind_entries-returns-in-If : goal.kind_entries-returns-in-If
kind_entries-returns-in-If t c =
    rw (c.in-If.is, plain_If, ← c.as_slice.ensures, ← c.as_slice-in-If.ensures)
    (λ n.
    let h = c.branches_entries-tested.ensures (n + 0) (also (part Else) (block (map plain_stmt c.as_slice-in-If.result.now))) in
    c.max.ensures ∙ ap (max c.branches_entries-tested.result) (c.block_entries.ensures (h.0 + 0)) ∙ sym h.1)

pub kind_entries-returns-in-While : goal.kind_entries-returns-in-While
kind_entries-returns-in-While t c =
    rw (c.in-While.is, plain_While, ← c.as_slice-in-While.ensures, ← c.as_slice-in-While-2.ensures)
    (λ n. c.max-in-While.ensures ∙ two top _ _ _ _ (c.block_entries-in-While.ensures _) (c.block_entries-in-While-2.ensures _))

pub kind_entries-returns-in-For : goal.kind_entries-returns-in-For
kind_entries-returns-in-For t c =
    rw (c.in-For.is, plain_For, ← c.as_slice-in-For.ensures, ← c.as_slice-in-For-2.ensures)
    (λ n. c.max-in-For.ensures ∙ two top _ _ _ _ (c.block_entries-in-For.ensures _) (c.block_entries-in-For-2.ensures _))

pub kind_entries-returns-in-None : goal.kind_entries-returns-in-None
kind_entries-returns-in-None t c =
    rw (c.in-Try.is, c.in-None.is, plain_Try, ← c.as_slice-in-Try.ensures, ← c.as_slice-in-Try-2.ensures, ← c.as_slice-in-Try-3.ensures)
    (λ n. c.max-whole.ensures ∙ two top _ _ _ _ (c.saturating_add-caught.ensures ∙ plus top 1 _ _ (c.max-in-Try.ensures ∙ two top _ _ _ _ (c.block_entries-tried.ensures _) (c.handlers_entries.ensures _))) (c.block_entries-in-Try.ensures _))

pub kind_entries-returns-in-Some : goal.kind_entries-returns-in-Some
kind_entries-returns-in-Some t c =
    let caught : c.saturating_add-caught.result ≡ min (max c.block_entries-tried.result c.handlers_entries.result + 1) top = c.saturating_add-caught.ensures ∙ ap (λ z. min (z + 1) top) c.max-in-Try.ensures in
    let all : c.saturating_add.result ≡ min (max c.covered.result c.block_entries-ended.result + 1) top = c.saturating_add.ensures ∙ ap (λ z. min (z + 1) top) c.max-in-Some.ensures in
    rw (c.in-Try.is, c.in-Some.is, plain_Try)
    (held_try c.in-Try.body c.in-Try.rest c.in-Some.last c.in-Try.handlers c.is_empty.result c.is_empty.ensures
    c.block_entries-tried.result c.handlers_entries.result c.saturating_add-caught.result c.block_entries-in-Try.result c.block_entries-ended.result c.covered.result c.saturating_add.result
    (λ m. c.block_entries-tried.ensures m ∙ ap (λ z. saturated (block_held z m)) c.as_slice-in-Try.ensures)
    (λ m. c.handlers_entries.ensures m ∙ ap (λ z. saturated (handlers_held z m)) c.as_slice-in-Try-2.ensures)
    caught
    (λ m. c.block_entries-in-Try.ensures m ∙ ap (λ z. saturated (block_held z m)) c.as_slice-in-Try-3.ensures)
    (λ m. c.block_entries-ended.ensures m ∙ ap (λ z. saturated (block_held z m)) c.as_slice-in-Some.ensures)
    c.covered.ensures.bare (λ h. c.covered.ensures.caught h ∙ c.max-whole.ensures) all)

pub kind_entries-returns-in_default : goal.kind_entries-returns-in_default
kind_entries-returns-in_default t c = held_others c.args.kind.now c.in_default.not-If c.in_default.not-While c.in_default.not-For c.in_default.not-Try

pub branches_entries-loop-branch-init : goal.branches_entries-loop-branch-init
branches_entries-loop-branch-init t c rest = none_yet (branches_held rest) c.args.branches.now

pub branches_entries-loop-branch-preserved : goal.branches_entries-loop-branch-preserved
branches_entries-loop-branch-preserved t c rest =
    one_more c.args.branches.now c.loop-branch.branch-index c.branch-item.result c.block_entries.result c.max-entries.result (branches_held_row rest) (c.loop-branch.invariant rest) c.loop-branch-test.true c.branch-item.is
    (λ n. c.block_entries.ensures (n + 0) ∙ ap (λ z. saturated (block_held z (n + 0))) c.as_slice.ensures) c.max-entries.ensures

pub branches_entries-returns : goal.branches_entries-returns
branches_entries-returns t c n rest = at_end c.args.branches.now c.loop-branch.branch-index (c.loop-branch.invariant rest) c.loop-branch-test.false n

pub handlers_entries-loop-handler-init : goal.handlers_entries-loop-handler-init
handlers_entries-loop-handler-init t c = none_yet handlers_held c.args.handlers.now

pub handlers_entries-loop-handler-preserved : goal.handlers_entries-loop-handler-preserved
handlers_entries-loop-handler-preserved t c =
    let hs = c.args.handlers.now in
    let i = c.loop-handler.handler-index in
    let x = c.handler-item.result in
    let inner : (n : ℕ) → c.block_entries-inner.result ≡ saturated (block_held (out-Handler x).body (n + 0)) =
    λ n. c.block_entries-inner.ensures (n + 0) ∙ ap (λ z. saturated (block_held z (n + 0))) c.as_slice.ensures in
    let few = named_few (out-Handler x).name in
    let name : c.name_entries.result ≡ saturated (named (out-Handler x).name) = let e = c.name_entries.ensures in omega (arith, e, few) in
    one_here hs i x (λ n. block_held (out-Handler x).body (n + 0) + named (out-Handler x).name) c.saturating_add.result c.max-entries.result c.loop-handler.invariant c.loop-handler-test.true c.handler-item.is
    (tested_held x c.in-Some.field-0 c.in-Some.is (drop (i + 1) hs))
    (λ n. c.saturating_add.ensures ∙ sum top _ _ _ _ (inner n) name) c.max-entries.ensures

pub handlers_entries-returns-in-None : goal.handlers_entries-returns-in-None
handlers_entries-returns-in-None t c n =
    let hs = c.args.handlers.now in
    let i = c.loop-handler.handler-index in
    let x = c.handler-item.result in
    let so = c.loop-handler.invariant.at n in
    let m = so.0 in
    let inner = c.block_entries-inner.ensures (m + 0) ∙ ap (λ z. saturated (block_held z (m + 0))) c.as_slice.ensures in
    let here = drop_item hs i x c.loop-handler-test.true c.handler-item.is in
    let last = untested_held x c.in-None.is (drop (i + 1) hs) m in
    c.max.ensures ∙ ap (max c.loop-handler.entries) (inner ∙ ap saturated (sym last) ∙ ap (λ z. saturated (handlers_held z m)) (sym here)) ∙ sym so.1

pub handlers_entries-returns : goal.handlers_entries-returns
handlers_entries-returns t c n = whole c.args.handlers.now c.loop-handler.handler-index c.loop-handler.invariant c.loop-handler-test.false (λ m. refl) n
