use Rattle.std.proofs.Common.{◌+◌, refl, ap, ap₂, ◌∙◌, arith, drop}
use denote.Param.Weighed.{most, at_most}
use Rattle.mpy_base.specs.declared.refused.Refused.TheVariants.{NoMemory}
use Rattle.py_tree.proofs.stmt.Stmt.TheLaws.{the_size}
use Rattle.py_tree.proofs.stmt.Branch.TheLaws.{the_size as branch_size}
use Rattle.py_tree.proofs.stmt.Handler.TheLaws.{the_size as handler_size}
use Rattle.emit_module.proofs.Sizes.{branch_less, handler_less, if_below, while_below, for_below, try_below, last_below, def_below}
use Rattle.py_tree.specs.declared.stmt.Stmt.{out-Stmt}
use Rattle.py_tree.specs.declared.stmt.StmtKind.TheVariants as s
use Rattle.std.specs.Prelude.{Ok, Err}
use Rattle.emit_stmt.proofs.emit_expr_lemmas.Rows.{filled_items}
use Rattle.emit_stmt.proofs.Plains.{simple_by}
use Rattle.py_tree.specs.declared.stmt.Branch.{out-Branch}
use Rattle.py_tree.specs.declared.stmt.Handler.{out-Handler}
use Rattle.tr_source.specs.py_meaning.Tree.{Else, End}
use Rattle.tr_source.specs.py_meaning.Plain.{part}
use Rattle.emit_module.proofs.Forests.{none_taken, one_taken, one_fails, one_last, all_taken, begun_by, begins_by, then_all, fails_all, depth_so_far, depth_kept, depth_front}
use Rattle.emit_module.proofs.Walking.{block_first, branches_first, handlers_first, handlers_last, handlers_begun, block_room, branches_room, handlers_room, same_defs, on_slice, untested, with_test, front_fails, front_walks, if_walks, if_fails, while_row, for_row, try_row, finally_row, both_row, tried_row, tried_rest_row, try_begins, body_begins, if_defs, while_defs, for_defs, try_defs, finally_defs, both_defs, try_within, def_walks, def_defs, simple_walks, on_ok, on_front, on_clauses, same_front, same_clauses}
use Rattle.emit_module.proofs.Coding.{function_walked, function_fails, body_fails, no_memory, begun_ok, begun_err}
use Rattle.emit_module.proofs.walk.+functions.Goals as goal

-- ---- blocks

pub emit_defs-loop-stmt-init : goal.emit_defs-loop-stmt-init
emit_defs-loop-stmt-init t c = record { few = omega arith; so = none_taken _ _ _ _ }

pub emit_defs-emit_in-requires : goal.emit_defs-emit_in-requires
emit_defs-emit_in-requires t c =
    let room = block_room c.args.block.now c.loop-stmt.stmt-index c.stmt-item.result _ _ c.loop-stmt.invariant.few (omega arith) c.stmt-item.is in
    let most_of = at_most the_size c.args.block.now c.loop-stmt.stmt-index c.stmt-item.result (omega arith) in
    let same = ap the_size c.stmt-item.is in
    (omega (arith, most_of, same), (omega (arith, c.requires.numbers, room), omega (arith, c.requires.shallow, depth_so_far c.loop-stmt.invariant.so)))

pub emit_defs-returns-in-Err-clause-walked : goal.emit_defs-returns-in-Err-clause-walked
emit_defs-returns-in-Err-clause-walked t c =
    one_fails c.args.block.now c.loop-stmt.stmt-index c.stmt-item.result c.in-Err.refusal c.loop-stmt.invariant.so (omega arith) c.stmt-item.is
    (begun_by (block_first c.stmt-item.result (drop (c.loop-stmt.stmt-index + 1) c.args.block.now))) c.in-Err.ensures.walked

pub emit_defs-loop-stmt-preserved : goal.emit_defs-loop-stmt-preserved
emit_defs-loop-stmt-preserved t c =
    let room = block_room c.args.block.now c.loop-stmt.stmt-index c.stmt-item.result _ _ c.loop-stmt.invariant.few (omega arith) c.stmt-item.is in
    record {
      few = omega (arith, room, c.in-Ok.ensures.numbers);
      so = one_taken c.args.block.now c.loop-stmt.stmt-index c.stmt-item.result _ c.loop-stmt.invariant.so (omega arith) c.stmt-item.is
          (block_first c.stmt-item.result (drop (c.loop-stmt.stmt-index + 1) c.args.block.now)) c.in-Ok.ensures.walked;
    }

pub emit_defs-returns-clause-numbers : goal.emit_defs-returns-clause-numbers
emit_defs-returns-clause-numbers t c = omega (arith, c.loop-stmt.invariant.few)

pub emit_defs-returns-clause-walked : goal.emit_defs-returns-clause-walked
emit_defs-returns-clause-walked t c = all_taken c.args.block.now c.loop-stmt.stmt-index _ c.loop-stmt.invariant.so (omega arith) (λ n. refl)

-- ---- branches

pub emit_branches-loop-branch-init : goal.emit_branches-loop-branch-init
emit_branches-loop-branch-init t c = record { few = omega arith; so = λ rest. none_taken _ _ _ _ }

pub emit_branches-emit_defs-requires : goal.emit_branches-emit_defs-requires
emit_branches-emit_defs-requires t c =
    let room = branches_room c.args.branches.now c.loop-branch.branch-index c.branch-item.result _ _ c.loop-branch.invariant.few (omega arith) c.branch-item.is in
    let same = same_defs c.as_slice.result.now (out-Branch c.branch-item.result).body c.as_slice.ensures in
    let most_of = at_most branch_size c.args.branches.now c.loop-branch.branch-index c.branch-item.result (omega arith) in
    let own = ap branch_size c.branch-item.is in
    let less = branch_less c.branch-item.result in
    let deep = ap (most the_size) c.as_slice.ensures in
    (omega (arith, most_of, own, less, deep), (omega (arith, c.requires.numbers, room, same), omega (arith, c.requires.shallow, depth_so_far (c.loop-branch.invariant.so (part (Else End))))))

pub emit_branches-returns-in-Err-clause-walked : goal.emit_branches-returns-in-Err-clause-walked
emit_branches-returns-in-Err-clause-walked t c =
    front_fails c.args.branches.now c.loop-branch.branch-index c.branch-item.result c.in-Err.refusal c.loop-branch.invariant.so (omega arith) c.branch-item.is
    (on_slice c.as_slice.result.now (out-Branch c.branch-item.result).body c.as_slice.ensures c.in-Err.ensures.walked)

pub emit_branches-loop-branch-preserved : goal.emit_branches-loop-branch-preserved
emit_branches-loop-branch-preserved t c =
    let room = branches_room c.args.branches.now c.loop-branch.branch-index c.branch-item.result _ _ c.loop-branch.invariant.few (omega arith) c.branch-item.is in
    let same = same_defs c.as_slice.result.now (out-Branch c.branch-item.result).body c.as_slice.ensures in
    record {
      few = omega (arith, room, same, c.in-Ok.ensures.numbers);
      so = λ rest. one_taken c.args.branches.now c.loop-branch.branch-index c.branch-item.result _ (c.loop-branch.invariant.so rest) (omega arith) c.branch-item.is
          (branches_first rest c.branch-item.result (drop (c.loop-branch.branch-index + 1) c.args.branches.now))
          (on_slice c.as_slice.result.now (out-Branch c.branch-item.result).body c.as_slice.ensures c.in-Ok.ensures.walked);
    }

pub emit_branches-returns-clause-numbers : goal.emit_branches-returns-clause-numbers
emit_branches-returns-clause-numbers t c = omega (arith, c.loop-branch.invariant.few)

pub emit_branches-returns-clause-walked : goal.emit_branches-returns-clause-walked
emit_branches-returns-clause-walked t c = front_walks c.args.branches.now c.loop-branch.branch-index _ c.loop-branch.invariant.so (omega arith)

-- ---- clauses

pub emit_handlers-loop-handler-init : goal.emit_handlers-loop-handler-init
emit_handlers-loop-handler-init t c = record { few = omega arith; so = none_taken _ _ _ _ }

pub emit_handlers-emit_defs-requires : goal.emit_handlers-emit_defs-requires
emit_handlers-emit_defs-requires t c =
    let room = handlers_room c.args.handlers.now c.loop-handler.handler-index c.handler-item.result _ _ c.loop-handler.invariant.few (omega arith) c.handler-item.is in
    let same = same_defs c.as_slice.result.now (out-Handler c.handler-item.result).body c.as_slice.ensures in
    let most_of = at_most handler_size c.args.handlers.now c.loop-handler.handler-index c.handler-item.result (omega arith) in
    let own = ap handler_size c.handler-item.is in
    let less = handler_less c.handler-item.result in
    let deep = ap (most the_size) c.as_slice.ensures in
    (omega (arith, most_of, own, less, deep), (omega (arith, c.requires.numbers, room, same), omega (arith, c.requires.shallow, depth_so_far c.loop-handler.invariant.so)))

pub emit_handlers-returns-in-Err-clause-walked : goal.emit_handlers-returns-in-Err-clause-walked
emit_handlers-returns-in-Err-clause-walked t c =
    one_fails c.args.handlers.now c.loop-handler.handler-index c.handler-item.result c.in-Err.refusal c.loop-handler.invariant.so (omega arith) c.handler-item.is
    (handlers_begun c.handler-item.result (drop (c.loop-handler.handler-index + 1) c.args.handlers.now))
    (on_slice c.as_slice.result.now (out-Handler c.handler-item.result).body c.as_slice.ensures c.in-Err.ensures.walked)

pub emit_handlers-returns-then-is_none-clause-numbers : goal.emit_handlers-returns-then-is_none-clause-numbers
emit_handlers-returns-then-is_none-clause-numbers t c =
    let room = handlers_room c.args.handlers.now c.loop-handler.handler-index c.handler-item.result _ _ c.loop-handler.invariant.few (omega arith) c.handler-item.is in
    let same = same_defs c.as_slice.result.now (out-Handler c.handler-item.result).body c.as_slice.ensures in
    omega (arith, room, same, c.in-Ok.ensures.numbers)

pub emit_handlers-returns-then-is_none-clause-walked : goal.emit_handlers-returns-then-is_none-clause-walked
emit_handlers-returns-then-is_none-clause-walked t c =
    one_last c.args.handlers.now c.loop-handler.handler-index c.handler-item.result _ _ c.loop-handler.invariant.so (omega arith) c.handler-item.is
    (handlers_last c.handler-item.result (drop (c.loop-handler.handler-index + 1) c.args.handlers.now) (untested (out-Handler c.handler-item.result).test c.is_none.result c.is_none.ensures c.if-is_none.true))
    (on_slice c.as_slice.result.now (out-Handler c.handler-item.result).body c.as_slice.ensures c.in-Ok.ensures.walked)

pub emit_handlers-loop-handler-preserved : goal.emit_handlers-loop-handler-preserved
emit_handlers-loop-handler-preserved t c =
    let room = handlers_room c.args.handlers.now c.loop-handler.handler-index c.handler-item.result _ _ c.loop-handler.invariant.few (omega arith) c.handler-item.is in
    let same = same_defs c.as_slice.result.now (out-Handler c.handler-item.result).body c.as_slice.ensures in
    record {
      few = omega (arith, room, same, c.in-Ok.ensures.numbers);
      so = one_taken c.args.handlers.now c.loop-handler.handler-index c.handler-item.result _ c.loop-handler.invariant.so (omega arith) c.handler-item.is
          (handlers_first c.handler-item.result (drop (c.loop-handler.handler-index + 1) c.args.handlers.now) (with_test (out-Handler c.handler-item.result).test c.is_none.result c.is_none.ensures c.if-is_none.false))
          (on_slice c.as_slice.result.now (out-Handler c.handler-item.result).body c.as_slice.ensures c.in-Ok.ensures.walked);
    }

pub emit_handlers-returns-clause-numbers : goal.emit_handlers-returns-clause-numbers
emit_handlers-returns-clause-numbers t c = omega (arith, c.loop-handler.invariant.few)

pub emit_handlers-returns-clause-walked : goal.emit_handlers-returns-clause-walked
emit_handlers-returns-clause-walked t c = all_taken c.args.handlers.now c.loop-handler.handler-index _ c.loop-handler.invariant.so (omega arith) (λ n. refl)

-- ---- functions

pub emit_function-emit_body-requires : goal.emit_function-emit_body-requires
emit_function-emit_body-requires t c =
    (omega arith, (omega (arith, c.requires.numbers), c.in-Ok.ensures.shallow))

pub emit_function-returns-in-Err-clause-walked : goal.emit_function-returns-in-Err-clause-walked
emit_function-returns-in-Err-clause-walked t c = function_fails c.args.name.now c.args.params.now c.args.body.now c.in-Err.refusal c.in-Err.ensures.code

pub emit_function-returns-in-Ok-put_code-clause-numbers : goal.emit_function-returns-in-Ok-put_code-clause-numbers
emit_function-returns-in-Ok-put_code-clause-numbers t c = omega (arith, c.in-Ok-put_code.ensures.next, c.in-Ok-emit_body.ensures.numbers)

pub emit_function-returns-in-Ok-put_code-clause-walked : goal.emit_function-returns-in-Ok-put_code-clause-walked
emit_function-returns-in-Ok-put_code-clause-walked t c =
    function_walked c.args.name.now c.args.params.now c.args.body.now c.in-Ok.own _ c.in-Ok.ensures.code c.in-Ok-emit_body.ensures.walked c.in-Ok-put_code.ensures

pub emit_function-returns-in-Err-put_code-clause-walked : goal.emit_function-returns-in-Err-put_code-clause-walked
emit_function-returns-in-Err-put_code-clause-walked t c = no_memory NoMemory refl

pub emit_function-returns-in-Err-emit_body-clause-walked : goal.emit_function-returns-in-Err-emit_body-clause-walked
emit_function-returns-in-Err-emit_body-clause-walked t c =
    body_fails c.args.name.now c.args.params.now c.args.body.now c.in-Ok.own c.in-Err-emit_body.refusal c.in-Ok.ensures.code c.in-Err-emit_body.ensures.walked

pub emit_body-emit_defs-requires : goal.emit_body-emit_defs-requires
emit_body-emit_defs-requires t c = (omega arith, (omega (arith, c.requires.numbers), omega (arith, c.requires.shallow)))

pub emit_body-returns-in-Ok-clause-numbers : goal.emit_body-returns-in-Ok-clause-numbers
emit_body-returns-in-Ok-clause-numbers t c = omega (arith, c.in-Ok.ensures.numbers)

pub emit_body-returns-in-Ok-clause-walked : goal.emit_body-returns-in-Ok-clause-walked
emit_body-returns-in-Ok-clause-walked t c = begun_ok _ (ap₂ (λ z ls. record { level = c.args.around.now.level; depth = c.args.around.now.depth + 1; next = c.args.around.now.next + 1; codes = z; lines = ls }) c.new.ensures c.new-2.ensures) c.in-Ok.ensures.walked

pub emit_body-returns-in-Err-clause-walked : goal.emit_body-returns-in-Err-clause-walked
emit_body-returns-in-Err-clause-walked t c = begun_err c.in-Err.refusal (ap₂ (λ z ls. record { level = c.args.around.now.level; depth = c.args.around.now.depth + 1; next = c.args.around.now.next + 1; codes = z; lines = ls }) c.new.ensures c.new-2.ensures) c.in-Err.ensures.walked

-- ---- one statement

pub emit_in-emit_branches-requires : goal.emit_in-emit_branches-requires
emit_in-emit_branches-requires t c =
    let whole = if_defs (out-Stmt c.args.stmt.now).kind c.in-If.branches c.in-If.rest c.in-If.is in
    let same = same_front c.as_slice.result.now c.in-If.branches c.as_slice.ensures in
    let less = (if_below c.args.stmt.now c.in-If.branches c.in-If.rest c.in-If.is).0 in
    let deep = ap (most branch_size) c.as_slice.ensures in
    (omega (arith, less, deep), (omega (arith, c.requires.numbers, whole, same), c.requires.shallow))

pub emit_in-emit_defs-requires : goal.emit_in-emit_defs-requires
emit_in-emit_defs-requires t c =
    let whole = if_defs (out-Stmt c.args.stmt.now).kind c.in-If.branches c.in-If.rest c.in-If.is in
    let same = same_front c.as_slice.result.now c.in-If.branches c.as_slice.ensures in
    let rest = same_defs c.as_slice-in-Ok.result.now c.in-If.rest c.as_slice-in-Ok.ensures in
    let kept = depth_front _ c.in-Ok.ensures.walked in
    let less = (if_below c.args.stmt.now c.in-If.branches c.in-If.rest c.in-If.is).1 in
    let deep = ap (most the_size) c.as_slice-in-Ok.ensures in
    (omega (arith, less, deep), (omega (arith, c.requires.numbers, whole, same, rest, c.in-Ok.ensures.numbers), omega (arith, c.requires.shallow, kept)))

pub emit_in-returns-in-Ok-clause-numbers : goal.emit_in-returns-in-Ok-clause-numbers
emit_in-returns-in-Ok-clause-numbers t c =
    let whole = if_defs (out-Stmt c.args.stmt.now).kind c.in-If.branches c.in-If.rest c.in-If.is in
    let same = same_front c.as_slice.result.now c.in-If.branches c.as_slice.ensures in
    let rest = same_defs c.as_slice-in-Ok.result.now c.in-If.rest c.as_slice-in-Ok.ensures in
    on_ok c.emit_defs.result c.emit_defs.ensures.numbers (λ h. omega (arith, h, whole, same, rest, c.in-Ok.ensures.numbers))

pub emit_in-returns-in-Ok-clause-walked : goal.emit_in-returns-in-Ok-clause-walked
emit_in-returns-in-Ok-clause-walked t c =
    if_walks (out-Stmt c.args.stmt.now).line (out-Stmt c.args.stmt.now).kind c.in-If.branches c.in-If.rest _ c.in-If.is
    (on_front c.as_slice.result.now c.in-If.branches c.as_slice.ensures c.in-Ok.ensures.walked)
    (on_slice c.as_slice-in-Ok.result.now c.in-If.rest c.as_slice-in-Ok.ensures c.emit_defs.ensures.walked)

pub emit_in-returns-in-Err-clause-walked : goal.emit_in-returns-in-Err-clause-walked
emit_in-returns-in-Err-clause-walked t c =
    if_fails (out-Stmt c.args.stmt.now).line (out-Stmt c.args.stmt.now).kind c.in-If.branches c.in-If.rest c.in-Err.refusal c.in-If.is
    (on_front c.as_slice.result.now c.in-If.branches c.as_slice.ensures c.in-Err.ensures.walked)

-- While

pub emit_in-emit_defs-requires-in-While : goal.emit_in-emit_defs-requires-in-While
emit_in-emit_defs-requires-in-While t c =
    let whole = while_defs (out-Stmt c.args.stmt.now).kind c.in-While.test c.in-While.body c.in-While.rest c.in-While.is in
    let same = same_defs c.as_slice-in-While.result.now c.in-While.body c.as_slice-in-While.ensures in
    let less = (while_below c.args.stmt.now c.in-While.test c.in-While.body c.in-While.rest c.in-While.is).0 in
    let deep = ap (most the_size) c.as_slice-in-While.ensures in
    (omega (arith, less, deep), (omega (arith, c.requires.numbers, whole, same), c.requires.shallow))

pub emit_in-emit_defs-requires-in-Ok-emit_defs : goal.emit_in-emit_defs-requires-in-Ok-emit_defs
emit_in-emit_defs-requires-in-Ok-emit_defs t c =
    let whole = while_defs (out-Stmt c.args.stmt.now).kind c.in-While.test c.in-While.body c.in-While.rest c.in-While.is in
    let same = same_defs c.as_slice-in-While.result.now c.in-While.body c.as_slice-in-While.ensures in
    let rest = same_defs c.as_slice-in-Ok-emit_defs.result.now c.in-While.rest c.as_slice-in-Ok-emit_defs.ensures in
    let kept = depth_kept _ c.in-Ok-emit_defs.ensures.walked in
    let less = (while_below c.args.stmt.now c.in-While.test c.in-While.body c.in-While.rest c.in-While.is).1 in
    let deep = ap (most the_size) c.as_slice-in-Ok-emit_defs.ensures in
    (omega (arith, less, deep), (omega (arith, c.requires.numbers, whole, same, rest, c.in-Ok-emit_defs.ensures.numbers), omega (arith, c.requires.shallow, kept)))

pub emit_in-returns-in-Ok-emit_defs-clause-numbers : goal.emit_in-returns-in-Ok-emit_defs-clause-numbers
emit_in-returns-in-Ok-emit_defs-clause-numbers t c =
    let whole = while_defs (out-Stmt c.args.stmt.now).kind c.in-While.test c.in-While.body c.in-While.rest c.in-While.is in
    let same = same_defs c.as_slice-in-While.result.now c.in-While.body c.as_slice-in-While.ensures in
    let rest = same_defs c.as_slice-in-Ok-emit_defs.result.now c.in-While.rest c.as_slice-in-Ok-emit_defs.ensures in
    on_ok c.emit_defs-in-Ok-emit_defs.result c.emit_defs-in-Ok-emit_defs.ensures.numbers (λ h. omega (arith, h, whole, same, rest, c.in-Ok-emit_defs.ensures.numbers))

pub emit_in-returns-in-Ok-emit_defs-clause-walked : goal.emit_in-returns-in-Ok-emit_defs-clause-walked
emit_in-returns-in-Ok-emit_defs-clause-walked t c =
    then_all _ c.emit_defs-in-Ok-emit_defs.result (while_row (out-Stmt c.args.stmt.now).line (out-Stmt c.args.stmt.now).kind c.in-While.test c.in-While.body c.in-While.rest c.in-While.is)
    (on_slice c.as_slice-in-While.result.now c.in-While.body c.as_slice-in-While.ensures c.in-Ok-emit_defs.ensures.walked)
    (on_slice c.as_slice-in-Ok-emit_defs.result.now c.in-While.rest c.as_slice-in-Ok-emit_defs.ensures c.emit_defs-in-Ok-emit_defs.ensures.walked)

pub emit_in-returns-in-Err-emit_defs-clause-walked : goal.emit_in-returns-in-Err-emit_defs-clause-walked
emit_in-returns-in-Err-emit_defs-clause-walked t c =
    fails_all c.in-Err-emit_defs.refusal (begins_by (while_row (out-Stmt c.args.stmt.now).line (out-Stmt c.args.stmt.now).kind c.in-While.test c.in-While.body c.in-While.rest c.in-While.is))
    (on_slice c.as_slice-in-While.result.now c.in-While.body c.as_slice-in-While.ensures c.in-Err-emit_defs.ensures.walked)

-- For

pub emit_in-emit_defs-requires-in-For : goal.emit_in-emit_defs-requires-in-For
emit_in-emit_defs-requires-in-For t c =
    let whole = for_defs (out-Stmt c.args.stmt.now).kind c.in-For.target c.in-For.over c.in-For.body c.in-For.rest c.in-For.is in
    let same = same_defs c.as_slice-in-For.result.now c.in-For.body c.as_slice-in-For.ensures in
    let less = (for_below c.args.stmt.now c.in-For.target c.in-For.over c.in-For.body c.in-For.rest c.in-For.is).0 in
    let deep = ap (most the_size) c.as_slice-in-For.ensures in
    (omega (arith, less, deep), (omega (arith, c.requires.numbers, whole, same), c.requires.shallow))

pub emit_in-emit_defs-requires-in-Ok-emit_defs-2 : goal.emit_in-emit_defs-requires-in-Ok-emit_defs-2
emit_in-emit_defs-requires-in-Ok-emit_defs-2 t c =
    let whole = for_defs (out-Stmt c.args.stmt.now).kind c.in-For.target c.in-For.over c.in-For.body c.in-For.rest c.in-For.is in
    let same = same_defs c.as_slice-in-For.result.now c.in-For.body c.as_slice-in-For.ensures in
    let rest = same_defs c.as_slice-in-Ok-emit_defs-2.result.now c.in-For.rest c.as_slice-in-Ok-emit_defs-2.ensures in
    let kept = depth_kept _ c.in-Ok-emit_defs-2.ensures.walked in
    let less = (for_below c.args.stmt.now c.in-For.target c.in-For.over c.in-For.body c.in-For.rest c.in-For.is).1 in
    let deep = ap (most the_size) c.as_slice-in-Ok-emit_defs-2.ensures in
    (omega (arith, less, deep), (omega (arith, c.requires.numbers, whole, same, rest, c.in-Ok-emit_defs-2.ensures.numbers), omega (arith, c.requires.shallow, kept)))

pub emit_in-returns-in-Ok-emit_defs-2-clause-numbers : goal.emit_in-returns-in-Ok-emit_defs-2-clause-numbers
emit_in-returns-in-Ok-emit_defs-2-clause-numbers t c =
    let whole = for_defs (out-Stmt c.args.stmt.now).kind c.in-For.target c.in-For.over c.in-For.body c.in-For.rest c.in-For.is in
    let same = same_defs c.as_slice-in-For.result.now c.in-For.body c.as_slice-in-For.ensures in
    let rest = same_defs c.as_slice-in-Ok-emit_defs-2.result.now c.in-For.rest c.as_slice-in-Ok-emit_defs-2.ensures in
    on_ok c.emit_defs-in-Ok-emit_defs-2.result c.emit_defs-in-Ok-emit_defs-2.ensures.numbers (λ h. omega (arith, h, whole, same, rest, c.in-Ok-emit_defs-2.ensures.numbers))

pub emit_in-returns-in-Ok-emit_defs-2-clause-walked : goal.emit_in-returns-in-Ok-emit_defs-2-clause-walked
emit_in-returns-in-Ok-emit_defs-2-clause-walked t c =
    then_all _ c.emit_defs-in-Ok-emit_defs-2.result (for_row (out-Stmt c.args.stmt.now).line (out-Stmt c.args.stmt.now).kind c.in-For.target c.in-For.over c.in-For.body c.in-For.rest c.in-For.is)
    (on_slice c.as_slice-in-For.result.now c.in-For.body c.as_slice-in-For.ensures c.in-Ok-emit_defs-2.ensures.walked)
    (on_slice c.as_slice-in-Ok-emit_defs-2.result.now c.in-For.rest c.as_slice-in-Ok-emit_defs-2.ensures c.emit_defs-in-Ok-emit_defs-2.ensures.walked)

pub emit_in-returns-in-Err-emit_defs-2-clause-walked : goal.emit_in-returns-in-Err-emit_defs-2-clause-walked
emit_in-returns-in-Err-emit_defs-2-clause-walked t c =
    fails_all c.in-Err-emit_defs-2.refusal (begins_by (for_row (out-Stmt c.args.stmt.now).line (out-Stmt c.args.stmt.now).kind c.in-For.target c.in-For.over c.in-For.body c.in-For.rest c.in-For.is))
    (on_slice c.as_slice-in-For.result.now c.in-For.body c.as_slice-in-For.ensures c.in-Err-emit_defs-2.ensures.walked)

-- Try

pub emit_in-emit_defs-requires-in-Try : goal.emit_in-emit_defs-requires-in-Try
emit_in-emit_defs-requires-in-Try t c =
    let whole = try_within (out-Stmt c.args.stmt.now).kind c.in-Try.body c.in-Try.handlers c.in-Try.rest c.in-Try.last c.in-Try.is in
    let body = same_defs c.as_slice-in-Try.result.now c.in-Try.body c.as_slice-in-Try.ensures in
    let less = (try_below c.args.stmt.now c.in-Try.body c.in-Try.handlers c.in-Try.rest c.in-Try.last c.in-Try.is).0 in
    let deep = ap (most the_size) c.as_slice-in-Try.ensures in
    (omega (arith, less, deep), (omega (arith, c.requires.numbers, whole, body), c.requires.shallow))

pub emit_in-returns-in-Err-emit_defs-3-clause-walked : goal.emit_in-returns-in-Err-emit_defs-3-clause-walked
emit_in-returns-in-Err-emit_defs-3-clause-walked t c =
    fails_all c.in-Err-emit_defs-3.refusal (body_begins (out-Stmt c.args.stmt.now).line (out-Stmt c.args.stmt.now).kind c.in-Try.body c.in-Try.handlers c.in-Try.rest c.in-Try.last c.in-Try.is)
    (on_slice c.as_slice-in-Try.result.now c.in-Try.body c.as_slice-in-Try.ensures c.in-Err-emit_defs-3.ensures.walked)

pub emit_in-emit_handlers-requires : goal.emit_in-emit_handlers-requires
emit_in-emit_handlers-requires t c =
    let whole = try_within (out-Stmt c.args.stmt.now).kind c.in-Try.body c.in-Try.handlers c.in-Try.rest c.in-Try.last c.in-Try.is in
    let body = same_defs c.as_slice-in-Try.result.now c.in-Try.body c.as_slice-in-Try.ensures in
    let clauses = same_clauses c.as_slice-in-Try-2.result.now c.in-Try.handlers c.as_slice-in-Try-2.ensures in
    let kept = depth_kept _ c.in-Ok-emit_defs-3.ensures.walked in
    let less = (try_below c.args.stmt.now c.in-Try.body c.in-Try.handlers c.in-Try.rest c.in-Try.last c.in-Try.is).1.0 in
    let deep = ap (most handler_size) c.as_slice-in-Try-2.ensures in
    (omega (arith, less, deep), (omega (arith, c.requires.numbers, whole, body, clauses, c.in-Ok-emit_defs-3.ensures.numbers), omega (arith, c.requires.shallow, kept)))

pub emit_in-returns-in-Err-emit_handlers-clause-walked : goal.emit_in-returns-in-Err-emit_handlers-clause-walked
emit_in-returns-in-Err-emit_handlers-clause-walked t c =
    fails_all c.in-Err-emit_handlers.refusal (try_begins (out-Stmt c.args.stmt.now).line (out-Stmt c.args.stmt.now).kind c.in-Try.body c.in-Try.handlers c.in-Try.rest c.in-Try.last c.in-Try.is)
    (then_all _ (Err c.in-Err-emit_handlers.refusal) (tried_row c.in-Try.body c.in-Try.handlers) (on_slice c.as_slice-in-Try.result.now c.in-Try.body c.as_slice-in-Try.ensures c.in-Ok-emit_defs-3.ensures.walked)
    (on_clauses c.as_slice-in-Try-2.result.now c.in-Try.handlers c.as_slice-in-Try-2.ensures c.in-Err-emit_handlers.ensures.walked))

pub emit_in-emit_defs-requires-in_default-last : goal.emit_in-emit_defs-requires-in_default-last
emit_in-emit_defs-requires-in_default-last t c =
    let whole = try_defs (out-Stmt c.args.stmt.now).kind c.in-Try.body c.in-Try.handlers c.in-Try.rest (c.in-Try.is ∙ ap (s.Try c.in-Try.body c.in-Try.handlers c.in-Try.rest) c.in_default-last.is) in
    let body = same_defs c.as_slice-in-Try.result.now c.in-Try.body c.as_slice-in-Try.ensures in
    let clauses = same_clauses c.as_slice-in-Try-2.result.now c.in-Try.handlers c.as_slice-in-Try-2.ensures in
    let rest = same_defs c.as_slice-in_default-last.result.now c.in-Try.rest c.as_slice-in_default-last.ensures in
    let kept = depth_kept _ c.in-Ok-emit_defs-3.ensures.walked in
    let again = depth_kept _ c.in-Ok-emit_handlers.ensures.walked in
    let less = (try_below c.args.stmt.now c.in-Try.body c.in-Try.handlers c.in-Try.rest c.in-Try.last c.in-Try.is).1.1 in
    let deep = ap (most the_size) c.as_slice-in_default-last.ensures in
    (omega (arith, less, deep), (omega (arith, c.requires.numbers, whole, body, clauses, rest, c.in-Ok-emit_defs-3.ensures.numbers, c.in-Ok-emit_handlers.ensures.numbers), omega (arith, c.requires.shallow, kept, again)))

pub emit_in-returns-in_default-last-clause-numbers : goal.emit_in-returns-in_default-last-clause-numbers
emit_in-returns-in_default-last-clause-numbers t c =
    let whole = try_defs (out-Stmt c.args.stmt.now).kind c.in-Try.body c.in-Try.handlers c.in-Try.rest (c.in-Try.is ∙ ap (s.Try c.in-Try.body c.in-Try.handlers c.in-Try.rest) c.in_default-last.is) in
    let body = same_defs c.as_slice-in-Try.result.now c.in-Try.body c.as_slice-in-Try.ensures in
    let clauses = same_clauses c.as_slice-in-Try-2.result.now c.in-Try.handlers c.as_slice-in-Try-2.ensures in
    let rest = same_defs c.as_slice-in_default-last.result.now c.in-Try.rest c.as_slice-in_default-last.ensures in
    on_ok c.emit_defs-in_default-last.result c.emit_defs-in_default-last.ensures.numbers (λ h. omega (arith, h, whole, body, clauses, rest, c.in-Ok-emit_defs-3.ensures.numbers, c.in-Ok-emit_handlers.ensures.numbers))

pub emit_in-returns-in_default-last-clause-walked : goal.emit_in-returns-in_default-last-clause-walked
emit_in-returns-in_default-last-clause-walked t c =
    then_all _ c.emit_defs-in_default-last.result (try_row (out-Stmt c.args.stmt.now).line (out-Stmt c.args.stmt.now).kind c.in-Try.body c.in-Try.handlers c.in-Try.rest (c.in-Try.is ∙ ap (s.Try c.in-Try.body c.in-Try.handlers c.in-Try.rest) c.in_default-last.is)) (then_all _ (Ok _) (tried_row c.in-Try.body c.in-Try.handlers) (on_slice c.as_slice-in-Try.result.now c.in-Try.body c.as_slice-in-Try.ensures c.in-Ok-emit_defs-3.ensures.walked) (on_clauses c.as_slice-in-Try-2.result.now c.in-Try.handlers c.as_slice-in-Try-2.ensures c.in-Ok-emit_handlers.ensures.walked))
    (on_slice c.as_slice-in_default-last.result.now c.in-Try.rest c.as_slice-in_default-last.ensures c.emit_defs-in_default-last.ensures.walked)

pub emit_in-emit_defs-requires-then-is_empty : goal.emit_in-emit_defs-requires-then-is_empty
emit_in-emit_defs-requires-then-is_empty t c =
    let whole = finally_defs (out-Stmt c.args.stmt.now).kind c.in-Try.body c.in-Try.handlers c.in-Try.rest c.in-Some.last (c.in-Try.is ∙ ap (s.Try c.in-Try.body c.in-Try.handlers c.in-Try.rest) c.in-Some.is) (c.is_empty.ensures.0 c.if-is_empty.true) in
    let body = same_defs c.as_slice-in-Try.result.now c.in-Try.body c.as_slice-in-Try.ensures in
    let clauses = same_clauses c.as_slice-in-Try-2.result.now c.in-Try.handlers c.as_slice-in-Try-2.ensures in
    let last = same_defs c.as_slice-then-is_empty.result.now c.in-Some.last c.as_slice-then-is_empty.ensures in
    let kept = depth_kept _ c.in-Ok-emit_defs-3.ensures.walked in
    let again = depth_kept _ c.in-Ok-emit_handlers.ensures.walked in
    let less = last_below c.args.stmt.now c.in-Try.body c.in-Try.handlers c.in-Try.rest c.in-Some.last (c.in-Try.is ∙ ap (s.Try c.in-Try.body c.in-Try.handlers c.in-Try.rest) c.in-Some.is) in
    let deep = ap (most the_size) c.as_slice-then-is_empty.ensures in
    (omega (arith, less, deep), (omega (arith, c.requires.numbers, whole, body, clauses, last, c.in-Ok-emit_defs-3.ensures.numbers, c.in-Ok-emit_handlers.ensures.numbers), omega (arith, c.requires.shallow, kept, again)))

pub emit_in-returns-then-is_empty-clause-numbers : goal.emit_in-returns-then-is_empty-clause-numbers
emit_in-returns-then-is_empty-clause-numbers t c =
    let whole = finally_defs (out-Stmt c.args.stmt.now).kind c.in-Try.body c.in-Try.handlers c.in-Try.rest c.in-Some.last (c.in-Try.is ∙ ap (s.Try c.in-Try.body c.in-Try.handlers c.in-Try.rest) c.in-Some.is) (c.is_empty.ensures.0 c.if-is_empty.true) in
    let body = same_defs c.as_slice-in-Try.result.now c.in-Try.body c.as_slice-in-Try.ensures in
    let clauses = same_clauses c.as_slice-in-Try-2.result.now c.in-Try.handlers c.as_slice-in-Try-2.ensures in
    let last = same_defs c.as_slice-then-is_empty.result.now c.in-Some.last c.as_slice-then-is_empty.ensures in
    on_ok c.emit_defs-then-is_empty.result c.emit_defs-then-is_empty.ensures.numbers (λ h. omega (arith, h, whole, body, clauses, last, c.in-Ok-emit_defs-3.ensures.numbers, c.in-Ok-emit_handlers.ensures.numbers))

pub emit_in-returns-then-is_empty-clause-walked : goal.emit_in-returns-then-is_empty-clause-walked
emit_in-returns-then-is_empty-clause-walked t c =
    then_all _ c.emit_defs-then-is_empty.result (finally_row (out-Stmt c.args.stmt.now).line (out-Stmt c.args.stmt.now).kind c.in-Try.body c.in-Try.handlers c.in-Try.rest c.in-Some.last (c.in-Try.is ∙ ap (s.Try c.in-Try.body c.in-Try.handlers c.in-Try.rest) c.in-Some.is) (c.is_empty.ensures.0 c.if-is_empty.true)) (then_all _ (Ok _) (tried_row c.in-Try.body c.in-Try.handlers) (on_slice c.as_slice-in-Try.result.now c.in-Try.body c.as_slice-in-Try.ensures c.in-Ok-emit_defs-3.ensures.walked) (on_clauses c.as_slice-in-Try-2.result.now c.in-Try.handlers c.as_slice-in-Try-2.ensures c.in-Ok-emit_handlers.ensures.walked))
    (on_slice c.as_slice-then-is_empty.result.now c.in-Some.last c.as_slice-then-is_empty.ensures c.emit_defs-then-is_empty.ensures.walked)

pub emit_in-emit_defs-requires-in-Try-2 : goal.emit_in-emit_defs-requires-in-Try-2
emit_in-emit_defs-requires-in-Try-2 t c =
    let whole = both_defs (out-Stmt c.args.stmt.now).kind c.in-Try.body c.in-Try.handlers c.in-Try.rest c.in-Some.last (c.in-Try.is ∙ ap (s.Try c.in-Try.body c.in-Try.handlers c.in-Try.rest) c.in-Some.is) (filled_items c.is_empty.result c.in-Try.handlers c.is_empty.ensures c.if-is_empty.false) in
    let body = same_defs c.as_slice-in-Try.result.now c.in-Try.body c.as_slice-in-Try.ensures in
    let clauses = same_clauses c.as_slice-in-Try-2.result.now c.in-Try.handlers c.as_slice-in-Try-2.ensures in
    let rest = same_defs c.as_slice-in-Try-3.result.now c.in-Try.rest c.as_slice-in-Try-3.ensures in
    let kept = depth_kept _ c.in-Ok-emit_defs-3.ensures.walked in
    let again = depth_kept _ c.in-Ok-emit_handlers.ensures.walked in
    let less = (try_below c.args.stmt.now c.in-Try.body c.in-Try.handlers c.in-Try.rest c.in-Try.last c.in-Try.is).1.1 in
    let deep = ap (most the_size) c.as_slice-in-Try-3.ensures in
    (omega (arith, less, deep), (omega (arith, c.requires.numbers, whole, body, clauses, rest, c.in-Ok-emit_defs-3.ensures.numbers, c.in-Ok-emit_handlers.ensures.numbers), omega (arith, c.requires.shallow, kept, again)))

pub emit_in-returns-in-Err-emit_defs-4-clause-walked : goal.emit_in-returns-in-Err-emit_defs-4-clause-walked
emit_in-returns-in-Err-emit_defs-4-clause-walked t c =
    fails_all c.in-Err-emit_defs-4.refusal (begins_by (both_row (out-Stmt c.args.stmt.now).line (out-Stmt c.args.stmt.now).kind c.in-Try.body c.in-Try.handlers c.in-Try.rest c.in-Some.last (c.in-Try.is ∙ ap (s.Try c.in-Try.body c.in-Try.handlers c.in-Try.rest) c.in-Some.is) (filled_items c.is_empty.result c.in-Try.handlers c.is_empty.ensures c.if-is_empty.false)))
    (then_all _ (Err c.in-Err-emit_defs-4.refusal) (tried_rest_row c.in-Try.body c.in-Try.handlers c.in-Try.rest) (then_all _ (Ok _) (tried_row c.in-Try.body c.in-Try.handlers) (on_slice c.as_slice-in-Try.result.now c.in-Try.body c.as_slice-in-Try.ensures c.in-Ok-emit_defs-3.ensures.walked) (on_clauses c.as_slice-in-Try-2.result.now c.in-Try.handlers c.as_slice-in-Try-2.ensures c.in-Ok-emit_handlers.ensures.walked))
    (on_slice c.as_slice-in-Try-3.result.now c.in-Try.rest c.as_slice-in-Try-3.ensures c.in-Err-emit_defs-4.ensures.walked))

pub emit_in-emit_defs-requires-in-Ok-emit_defs-4 : goal.emit_in-emit_defs-requires-in-Ok-emit_defs-4
emit_in-emit_defs-requires-in-Ok-emit_defs-4 t c =
    let whole = both_defs (out-Stmt c.args.stmt.now).kind c.in-Try.body c.in-Try.handlers c.in-Try.rest c.in-Some.last (c.in-Try.is ∙ ap (s.Try c.in-Try.body c.in-Try.handlers c.in-Try.rest) c.in-Some.is) (filled_items c.is_empty.result c.in-Try.handlers c.is_empty.ensures c.if-is_empty.false) in
    let body = same_defs c.as_slice-in-Try.result.now c.in-Try.body c.as_slice-in-Try.ensures in
    let clauses = same_clauses c.as_slice-in-Try-2.result.now c.in-Try.handlers c.as_slice-in-Try-2.ensures in
    let rest = same_defs c.as_slice-in-Try-3.result.now c.in-Try.rest c.as_slice-in-Try-3.ensures in
    let last = same_defs c.as_slice-in-Ok-emit_defs-4.result.now c.in-Some.last c.as_slice-in-Ok-emit_defs-4.ensures in
    let kept = depth_kept _ c.in-Ok-emit_defs-3.ensures.walked in
    let again = depth_kept _ c.in-Ok-emit_handlers.ensures.walked in
    let more = depth_kept _ c.in-Ok-emit_defs-4.ensures.walked in
    let less = last_below c.args.stmt.now c.in-Try.body c.in-Try.handlers c.in-Try.rest c.in-Some.last (c.in-Try.is ∙ ap (s.Try c.in-Try.body c.in-Try.handlers c.in-Try.rest) c.in-Some.is) in
    let deep = ap (most the_size) c.as_slice-in-Ok-emit_defs-4.ensures in
    (omega (arith, less, deep), (omega (arith, c.requires.numbers, whole, body, clauses, rest, last, c.in-Ok-emit_defs-3.ensures.numbers, c.in-Ok-emit_handlers.ensures.numbers, c.in-Ok-emit_defs-4.ensures.numbers), omega (arith, c.requires.shallow, kept, again, more)))

pub emit_in-returns-in-Ok-emit_defs-4-clause-numbers : goal.emit_in-returns-in-Ok-emit_defs-4-clause-numbers
emit_in-returns-in-Ok-emit_defs-4-clause-numbers t c =
    let whole = both_defs (out-Stmt c.args.stmt.now).kind c.in-Try.body c.in-Try.handlers c.in-Try.rest c.in-Some.last (c.in-Try.is ∙ ap (s.Try c.in-Try.body c.in-Try.handlers c.in-Try.rest) c.in-Some.is) (filled_items c.is_empty.result c.in-Try.handlers c.is_empty.ensures c.if-is_empty.false) in
    let body = same_defs c.as_slice-in-Try.result.now c.in-Try.body c.as_slice-in-Try.ensures in
    let clauses = same_clauses c.as_slice-in-Try-2.result.now c.in-Try.handlers c.as_slice-in-Try-2.ensures in
    let rest = same_defs c.as_slice-in-Try-3.result.now c.in-Try.rest c.as_slice-in-Try-3.ensures in
    let last = same_defs c.as_slice-in-Ok-emit_defs-4.result.now c.in-Some.last c.as_slice-in-Ok-emit_defs-4.ensures in
    on_ok c.emit_defs-in-Ok-emit_defs-4.result c.emit_defs-in-Ok-emit_defs-4.ensures.numbers
    (λ h. omega (arith, h, whole, body, clauses, rest, last, c.in-Ok-emit_defs-3.ensures.numbers, c.in-Ok-emit_handlers.ensures.numbers, c.in-Ok-emit_defs-4.ensures.numbers))

pub emit_in-returns-in-Ok-emit_defs-4-clause-walked : goal.emit_in-returns-in-Ok-emit_defs-4-clause-walked
emit_in-returns-in-Ok-emit_defs-4-clause-walked t c =
    then_all _ c.emit_defs-in-Ok-emit_defs-4.result (both_row (out-Stmt c.args.stmt.now).line (out-Stmt c.args.stmt.now).kind c.in-Try.body c.in-Try.handlers c.in-Try.rest c.in-Some.last (c.in-Try.is ∙ ap (s.Try c.in-Try.body c.in-Try.handlers c.in-Try.rest) c.in-Some.is) (filled_items c.is_empty.result c.in-Try.handlers c.is_empty.ensures c.if-is_empty.false))
    (then_all _ (Ok _) (tried_rest_row c.in-Try.body c.in-Try.handlers c.in-Try.rest) (then_all _ (Ok _) (tried_row c.in-Try.body c.in-Try.handlers) (on_slice c.as_slice-in-Try.result.now c.in-Try.body c.as_slice-in-Try.ensures c.in-Ok-emit_defs-3.ensures.walked) (on_clauses c.as_slice-in-Try-2.result.now c.in-Try.handlers c.as_slice-in-Try-2.ensures c.in-Ok-emit_handlers.ensures.walked))
    (on_slice c.as_slice-in-Try-3.result.now c.in-Try.rest c.as_slice-in-Try-3.ensures c.in-Ok-emit_defs-4.ensures.walked))
    (on_slice c.as_slice-in-Ok-emit_defs-4.result.now c.in-Some.last c.as_slice-in-Ok-emit_defs-4.ensures c.emit_defs-in-Ok-emit_defs-4.ensures.walked)

-- Def and others

pub emit_in-emit_function-requires : goal.emit_in-emit_function-requires
emit_in-emit_function-requires t c =
    let whole = def_defs (out-Stmt c.args.stmt.now).kind c.in-Def.name c.in-Def.params c.in-Def.body c.as_slice-in-Def-2.result.now c.in-Def.is c.as_slice-in-Def-2.ensures in
    let less = def_below c.args.stmt.now c.in-Def.name c.in-Def.params c.in-Def.body c.in-Def.is in
    let deep = ap (most the_size) c.as_slice-in-Def-2.ensures in
    (omega (arith, less, deep), (omega (arith, c.requires.numbers, whole), c.requires.shallow))

pub emit_in-returns-in-Def-clause-numbers : goal.emit_in-returns-in-Def-clause-numbers
emit_in-returns-in-Def-clause-numbers t c =
    let whole = def_defs (out-Stmt c.args.stmt.now).kind c.in-Def.name c.in-Def.params c.in-Def.body c.as_slice-in-Def-2.result.now c.in-Def.is c.as_slice-in-Def-2.ensures in
    on_ok c.emit_function.result c.emit_function.ensures.numbers (λ h. omega (arith, h, whole))

pub emit_in-returns-in-Def-clause-walked : goal.emit_in-returns-in-Def-clause-walked
emit_in-returns-in-Def-clause-walked t c =
    def_walks (out-Stmt c.args.stmt.now).line (out-Stmt c.args.stmt.now).kind c.in-Def.name c.bytes.result.now c.in-Def.params c.as_slice-in-Def.result.now c.in-Def.body c.as_slice-in-Def-2.result.now c.in-Def.is
    c.bytes.ensures c.as_slice-in-Def.ensures c.as_slice-in-Def-2.ensures c.emit_function.ensures.walked

pub emit_in-returns-in_default : goal.emit_in-returns-in_default
emit_in-returns-in_default t c = record {
  numbers = omega arith;
  walked = simple_walks c.args.slots.now c.args.children.now (out-Stmt c.args.stmt.now).line (out-Stmt c.args.stmt.now).kind _
      (simple_by (out-Stmt c.args.stmt.now).kind c.in_default.not-If c.in_default.not-While c.in_default.not-For c.in_default.not-Try c.in_default.not-Def);
}
