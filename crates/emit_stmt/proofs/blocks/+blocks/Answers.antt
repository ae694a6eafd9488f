use Rattle.std.proofs.Common.{Some, refl, sym, ap, ◌∙◌, arith}
use Rattle.py_tree.specs.declared.stmt.Branch.{out-Branch}
use Rattle.py_tree.specs.declared.stmt.Handler.{out-Handler}
use Rattle.py_tree.specs.declared.stmt.Stmt.{out-Stmt}
use Rattle.emit_expr.proofs.Rows.{drop_item, empty_slice, filled_slice}
use Rattle.emit_expr.specs.py_meaning.Plain.{numbered}
use Rattle.emit_stmt.specs.Plain.{plain_kind}
use Rattle.emit_stmt.proofs.Plains.{simple_by}
use Rattle.emit_stmt.specs.Parts.{plain_block, plain_handlers, if_part}
use Rattle.emit_stmt.proofs.Layers.{if_is, def_is, bare_is, handled_is}
use Rattle.emit_stmt.proofs.Loops.{while_top, while_emits, for_top, for_emits, loop_held}
use Rattle.emit_stmt.proofs.Tries.{unnamed_emits, named_held, named_emits, clause_held, clause_emits, guard_held, guarded, try_held, try_emits, last_emits, finally_held, finally_emits, try_finally_emits}
use Rattle.emit_stmt.proofs.Rows.{block_begun, branches_begun, branches_held, if_emits, case_held, case_emits, handlers_begun}
use Rattle.emit_stmt.proofs.Walks.{on_if_ok, as_part, as_block, as_clause, as_matched, as_gone, none_of, same_defs, block_step, block_done, branches_step, branches_all, handlers_step, handlers_done, handlers_any, simple_emits, def_emits}
use Rattle.emit_stmt.proofs.blocks.+blocks.Goals as goal

-- ---- blocks

pub emit_block-loop-stmt-init : goal.emit_block-loop-stmt-init
emit_block-loop-stmt-init t c = block_begun _ _ _ _ _

pub emit_block-loop-stmt-preserved : goal.emit_block-loop-stmt-preserved
emit_block-loop-stmt-preserved t c =
    block_step c.args.block.now c.loop-stmt.stmt-index c.stmt-item.result c.loop-stmt.invariant c.in_ok-at.ensures
    (drop_item c.args.block.now c.loop-stmt.stmt-index c.stmt-item.result (omega arith) c.stmt-item.is)

pub emit_block-returns : goal.emit_block-returns
emit_block-returns t c = block_done c.args.block.now c.loop-stmt.stmt-index c.loop-stmt.invariant (omega arith)

-- ---- one statement

pub emit_stmt-returns-in-If : goal.emit_stmt-returns-in-If
emit_stmt-returns-in-If t c =
    on_if_ok c.emit_if.result c.emit_if.ensures (λ after h. as_part (h (out-Stmt c.args.stmt.now).line)
    (ap plain_kind c.in-If.is ∙ if_is c.in-If.branches c.in-If.rest ∙ ap (λ z. if_part z c.in-If.rest) (sym c.as_slice.ensures) ∙ ap (if_part c.as_slice.result.now) (sym c.as_slice-in-If.ensures)))

pub emit_stmt-returns-in_ok-emit_def-in-Def : goal.emit_stmt-returns-in_ok-emit_def-in-Def
emit_stmt-returns-in_ok-emit_def-in-Def t c =
    as_part (def_emits c.args.child c.bytes.result.now c.as_slice-in-Def.result.now (plain_block c.in-Def.body) c.in_ok-emit_def-in-Def.ensures)
    (ap plain_kind c.in-Def.is ∙ def_is c.in-Def.name c.in-Def.params c.in-Def.body ∙ ap (λ z. numbered z c.in-Def.params (plain_block c.in-Def.body)) (sym c.bytes.ensures)
    ∙ ap (λ z. numbered c.bytes.result.now z (plain_block c.in-Def.body)) (sym c.as_slice-in-Def.ensures))

pub emit_stmt-returns-in_ok-emit_simple-in_default : goal.emit_stmt-returns-in_ok-emit_simple-in_default
emit_stmt-returns-in_ok-emit_simple-in_default t c =
    simple_emits c.args.child (out-Stmt c.args.stmt.now).kind (simple_by (out-Stmt c.args.stmt.now).kind c.in_default.not-If c.in_default.not-While c.in_default.not-For c.in_default.not-Try c.in_default.not-Def) c.in_ok-emit_simple-in_default.ensures

-- ---- branches

pub emit_case-bind-requires : goal.emit_case-bind-requires
emit_case-bind-requires t c =
    (case_held c.args.over 0 c.in_ok-other.ensures c.in_ok-emit_expr.ensures c.in_ok-put.ensures c.in_ok-after.ensures c.in_ok-put_exit.ensures.last c.in_ok-put_exit.ensures.other).free

pub emit_case-returns : goal.emit_case-returns
emit_case-returns t c =
    case_emits c.args.over c.in_ok-other.ensures c.in_ok-emit_expr.ensures c.in_ok-put.ensures (as_block c.as_slice.result.now (out-Branch c.args.branch.now).body c.in_ok-after.ensures c.as_slice.ensures)
    c.in_ok-put_exit.ensures.last c.in_ok-put_exit.ensures.other c.bind.ensures

pub emit_if-loop-i-init : goal.emit_if-loop-i-init
emit_if-loop-i-init t c = branches_begun _ _ _ _ _ _

pub emit_if-loop-i-preserved : goal.emit_if-loop-i-preserved
emit_if-loop-i-preserved t c =
    branches_step c.is_over-over.result c.args.rest.now c.args.branches.now c.loop-i.i _ _ c.index-branches-i.result c.loop-i.invariant c.in_ok-at.ensures
    (drop_item c.args.branches.now c.loop-i.i c.index-branches-i.result (omega arith) c.index-branches-i.is) (omega arith) (omega arith) c.is_over-over.ensures

pub emit_if-emit_block-requires : goal.emit_if-emit_block-requires
emit_if-emit_block-requires t c =
    let room = branches_all c.args.rest.now c.args.branches.now c.loop-i.i c.loop-i.invariant (omega arith) in
    (omega arith, omega (arith, c.requires, room.few))

pub emit_if-bind-requires : goal.emit_if-bind-requires
emit_if-bind-requires t c =
    (branches_held 0 c.in_ok-end.ensures (branches_all c.args.rest.now c.args.branches.now c.loop-i.i c.loop-i.invariant (omega arith)) c.in_ok-after.ensures).free

pub emit_if-returns : goal.emit_if-returns
emit_if-returns t c line =
    if_emits line c.in_ok-end.ensures (branches_all c.args.rest.now c.args.branches.now c.loop-i.i c.loop-i.invariant (omega arith)) c.in_ok-after.ensures c.bind.ensures

-- ---- loops

pub emit_while-emit_block-requires : goal.emit_while-emit_block-requires
emit_while-emit_block-requires t c =
    (omega arith, omega (arith, c.requires))

pub emit_while-bind-requires-2 : goal.emit_while-bind-requires-2
emit_while-bind-requires-2 t c =
    ((while_top c.in_ok-end.ensures c.in_ok-next.ensures c.bind.ensures c.in_ok-other.ensures c.in_ok-emit_expr.ensures c.in_ok-put.ensures c.in_ok-at.ensures c.in_ok-put_behind.ensures).turns 0).free

pub emit_while-emit_block-requires-2 : goal.emit_while-emit_block-requires-2
emit_while-emit_block-requires-2 t c =
    (omega arith, omega (arith, c.requires, c.in_ok-at.ensures.few))

pub emit_while-bind-requires-3 : goal.emit_while-bind-requires-3
emit_while-bind-requires-3 t c =
    (loop_held 0 0 (while_top c.in_ok-end.ensures c.in_ok-next.ensures c.bind.ensures c.in_ok-other.ensures c.in_ok-emit_expr.ensures c.in_ok-put.ensures c.in_ok-at.ensures c.in_ok-put_behind.ensures)
    c.bind-2.ensures c.in_ok-after.ensures).free

pub emit_while-returns : goal.emit_while-returns
emit_while-returns t c =
    while_emits (while_top c.in_ok-end.ensures c.in_ok-next.ensures c.bind.ensures c.in_ok-other.ensures c.in_ok-emit_expr.ensures c.in_ok-put.ensures c.in_ok-at.ensures c.in_ok-put_behind.ensures)
    c.bind-2.ensures c.in_ok-after.ensures c.bind-3.ensures

pub emit_for-emit_block-requires : goal.emit_for-emit_block-requires
emit_for-emit_block-requires t c =
    (omega arith, omega (arith, c.requires))

pub emit_for-bind-requires-2 : goal.emit_for-bind-requires-2
emit_for-bind-requires-2 t c =
    ((for_top c.in_ok-end.ensures c.in_ok-emit_expr.ensures c.in_ok-put.ensures c.in_ok-next.ensures c.bind.ensures c.in_ok-other.ensures c.in_ok-put-2.ensures c.in_ok-emit_target.ensures c.in_ok-at.ensures
    c.in_ok-put_behind.ensures).turns 0).free

pub emit_for-emit_block-requires-2 : goal.emit_for-emit_block-requires-2
emit_for-emit_block-requires-2 t c =
    (omega arith, omega (arith, c.requires, c.in_ok-at.ensures.few))

pub emit_for-bind-requires-3 : goal.emit_for-bind-requires-3
emit_for-bind-requires-3 t c =
    (loop_held 0 0 (for_top c.in_ok-end.ensures c.in_ok-emit_expr.ensures c.in_ok-put.ensures c.in_ok-next.ensures c.bind.ensures c.in_ok-other.ensures c.in_ok-put-2.ensures c.in_ok-emit_target.ensures c.in_ok-at.ensures
    c.in_ok-put_behind.ensures) c.bind-2.ensures c.in_ok-after.ensures).free

pub emit_for-returns : goal.emit_for-returns
emit_for-returns t c =
    for_emits (for_top c.in_ok-end.ensures c.in_ok-emit_expr.ensures c.in_ok-put.ensures c.in_ok-next.ensures c.bind.ensures c.in_ok-other.ensures c.in_ok-put-2.ensures c.in_ok-emit_target.ensures c.in_ok-at.ensures
    c.in_ok-put_behind.ensures) c.bind-2.ensures c.in_ok-after.ensures c.bind-3.ensures

-- ---- clauses

pub emit_handlers-loop-handler-init : goal.emit_handlers-loop-handler-init
emit_handlers-loop-handler-init t c = handlers_begun _ _ _ _ _ _

pub emit_handlers-returns-in_default : goal.emit_handlers-returns-in_default
emit_handlers-returns-in_default t c =
    handlers_any c.args.handlers.now c.loop-handler.handler-index c.handler-item.result c.loop-handler.invariant
    (drop_item c.args.handlers.now c.loop-handler.handler-index c.handler-item.result (omega arith) c.handler-item.is) (none_of _ c.in_default.not-Some) c.in_ok-put.ensures
    (as_block c.as_slice.result.now (out-Handler c.handler-item.result).body c.in_ok-after.ensures c.as_slice.ensures) c.in_ok-put_behind.ensures

pub emit_handlers-loop-handler-preserved : goal.emit_handlers-loop-handler-preserved
emit_handlers-loop-handler-preserved t c =
    handlers_step c.args.handlers.now c.loop-handler.handler-index c.handler-item.result c.in-Some.test c.loop-handler.invariant
    (as_clause c.as_slice-in-loop-handler.result.now (out-Handler c.handler-item.result).body c.in_ok-at.ensures c.as_slice-in-loop-handler.ensures)
    (drop_item c.args.handlers.now c.loop-handler.handler-index c.handler-item.result (omega arith) c.handler-item.is) c.in-Some.is

pub emit_handlers-returns : goal.emit_handlers-returns
emit_handlers-returns t c = handlers_done c.args.handlers.now c.loop-handler.handler-index c.loop-handler.invariant (omega arith)

pub emit_clause-emit_matched-requires : goal.emit_clause-emit_matched-requires
emit_clause-emit_matched-requires t c =
    (omega arith, c.requires)

pub emit_clause-bind-requires : goal.emit_clause-bind-requires
emit_clause-bind-requires t c = (clause_held c.args.test.now 0 c.in_ok-other.ensures c.in_ok-put_match.ensures c.in_ok-after.ensures c.in_ok-put_behind.ensures).free

pub emit_clause-returns : goal.emit_clause-returns
emit_clause-returns t c = clause_emits c.args.test.now c.in_ok-other.ensures c.in_ok-put_match.ensures c.in_ok-after.ensures c.in_ok-put_behind.ensures c.bind.ensures

pub emit_matched-bind-requires : goal.emit_matched-bind-requires
emit_matched-bind-requires t c = (named_held 0 c.in_ok-last-in-Some.ensures c.in_ok-put-in-Some.ensures c.in_ok-after-in-Some.ensures c.in_ok-put_behind-in-Some.ensures).free

pub emit_matched-returns-in_ok-put-in-None : goal.emit_matched-returns-in_ok-put-in-None
emit_matched-returns-in_ok-put-in-None t c =
    on_if_ok c.emit_block.result c.emit_block.ensures (λ after h. as_matched (unnamed_emits c.in_ok-put-in-None.ensures h) c.in-None.is)

pub emit_matched-returns-in_ok-put_gone-in-Some : goal.emit_matched-returns-in_ok-put_gone-in-Some
emit_matched-returns-in_ok-put_gone-in-Some t c =
    as_matched
    (named_emits c.bytes.result.now c.in_ok-put_store-in-Some.ensures c.deepen-inner.ensures c.in_ok-last-in-Some.ensures c.in_ok-put-in-Some.ensures c.in_ok-after-in-Some.ensures c.in_ok-put_behind-in-Some.ensures c.bind.ensures
    (as_gone c.in_ok-put_gone-in-Some.ensures (c.bytes.ensures ∙ sym c.bytes-in-Some.ensures))) (c.in-Some.is ∙ ap Some (sym c.bytes.ensures))

-- ---- try

pub emit_try-bind-requires : goal.emit_try-bind-requires
emit_try-bind-requires t c = (guard_held 0 refl c.in_ok-clauses.ensures c.in_ok-put.ensures c.in_ok-at.ensures c.in_ok-put_behind.ensures).free

pub emit_try-emit_handlers-requires : goal.emit_try-emit_handlers-requires
emit_try-emit_handlers-requires t c =
    (omega arith, omega (arith, c.requires, c.in_ok-at.ensures.few))

pub emit_try-bind-requires-2 : goal.emit_try-bind-requires-2
emit_try-bind-requires-2 t c =
    ((guarded c.in_ok-end.ensures c.in_ok-other.ensures c.deepen-inner.ensures c.in_ok-clauses.ensures c.in_ok-put.ensures c.in_ok-at.ensures c.in_ok-put_behind.ensures c.bind.ensures c.in_ok-at-2.ensures
    c.in_ok-put_behind-2.ensures).by 0 0).free

pub emit_try-emit_block-requires-2 : goal.emit_try-emit_block-requires-2
emit_try-emit_block-requires-2 t c =
    (omega arith, omega (arith, c.requires, c.in_ok-at.ensures.few, c.in_ok-at-2.ensures.few))

pub emit_try-bind-requires-3 : goal.emit_try-bind-requires-3
emit_try-bind-requires-3 t c =
    (try_held 0 0 0 (guarded c.in_ok-end.ensures c.in_ok-other.ensures c.deepen-inner.ensures c.in_ok-clauses.ensures c.in_ok-put.ensures c.in_ok-at.ensures c.in_ok-put_behind.ensures c.bind.ensures c.in_ok-at-2.ensures
    c.in_ok-put_behind-2.ensures) c.bind-2.ensures c.in_ok-after.ensures).free

pub emit_try-returns : goal.emit_try-returns
emit_try-returns t c =
    try_emits (guarded c.in_ok-end.ensures c.in_ok-other.ensures c.deepen-inner.ensures c.in_ok-clauses.ensures c.in_ok-put.ensures c.in_ok-at.ensures c.in_ok-put_behind.ensures c.bind.ensures c.in_ok-at-2.ensures
    c.in_ok-put_behind-2.ensures) c.bind-2.ensures c.in_ok-after.ensures c.bind-3.ensures

-- ---- finally

pub emit_finally-emit_last-requires : goal.emit_finally-emit_last-requires
emit_finally-emit_last-requires t c =
    let bare = bare_is c.args.body.now c.args.handlers.now c.args.rest.now c.args.last.now (empty_slice c.args.handlers.now c.is_empty.result c.is_empty.ensures c.if-is_empty.true) in
    (omega arith, (omega (arith, c.requires, c.in_ok-at.ensures.few, same_defs bare), (finally_held c.in_ok-behind.ensures c.in_ok-put.ensures (c.in_ok-at.ensures.by 0)).free))

pub emit_finally-returns-then-is_empty : goal.emit_finally-returns-then-is_empty
emit_finally-returns-then-is_empty t c =
    let bare = bare_is c.args.body.now c.args.handlers.now c.args.rest.now c.args.last.now (empty_slice c.args.handlers.now c.is_empty.result c.is_empty.ensures c.if-is_empty.true) in
    on_if_ok c.emit_last.result c.emit_last.ensures (λ after h. as_part (finally_emits c.deepen-inner.ensures c.in_ok-behind.ensures c.in_ok-put.ensures c.in_ok-at.ensures h) bare)

pub emit_finally-emit_last-requires-2 : goal.emit_finally-emit_last-requires-2
emit_finally-emit_last-requires-2 t c =
    let handled = handled_is c.args.body.now c.args.handlers.now c.args.rest.now c.args.last.now (filled_slice c.args.handlers.now c.is_empty.result c.is_empty.ensures c.if-is_empty.false) in
    (omega arith, (omega (arith, c.requires, c.in_ok-at-2.ensures.few, same_defs handled), (finally_held c.in_ok-behind.ensures c.in_ok-put.ensures (c.in_ok-at-2.ensures.by 0)).free))

pub emit_finally-returns : goal.emit_finally-returns
emit_finally-returns t c =
    let handled = handled_is c.args.body.now c.args.handlers.now c.args.rest.now c.args.last.now (filled_slice c.args.handlers.now c.is_empty.result c.is_empty.ensures c.if-is_empty.false) in
    on_if_ok c.emit_last-2.result c.emit_last-2.ensures
    (λ after h. as_part (try_finally_emits (plain_block c.args.body.now) (plain_block c.args.rest.now) (plain_handlers c.args.handlers.now) c.deepen-inner.ensures c.in_ok-behind.ensures c.in_ok-put.ensures c.in_ok-at-2.ensures h) handled)

pub emit_last-returns : goal.emit_last-returns
emit_last-returns t c = last_emits c.requires.free c.in_ok-put_behind.ensures c.bind.ensures c.in_ok-after.ensures c.in_ok-put_behind-2.ensures
