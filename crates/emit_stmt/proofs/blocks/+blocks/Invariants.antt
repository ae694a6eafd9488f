use Rattle.std.proofs.Common.{◌+◌, ◌*◌, max, drop}
use denote.Param.Weighed.{most}
use Rattle.py_tree.proofs.stmt.Stmt.TheLaws.{the_size}
use Rattle.py_tree.proofs.stmt.Handler.TheLaws.{the_size as handler_size}
use Rattle.emit_stmt.specs.Parts.{plain_block, plain_branches, plain_handlers}
use Rattle.emit_stmt.proofs.Rows.{BuildsB, BuildsI, BuildsH}
use Rattle.emit_stmt.proofs.blocks.+blocks.Given as goal

abbrev pub invariant-emit_block-loop-stmt : goal.invariant-emit_block-loop-stmt
invariant-emit_block-loop-stmt l = BuildsB l.fn.draft l.draft l.scope l.around l.fn.child l.at (plain_block (drop l.stmt-index l.block)) (plain_block l.block)

abbrev pub invariant-emit_if-loop-i : goal.invariant-emit_if-loop-i
invariant-emit_if-loop-i l = BuildsI l.initial.draft l.draft l.scope l.around l.end l.fn.child l.at (plain_branches (drop l.i l.branches) l.rest) (plain_branches l.branches l.rest)

abbrev pub invariant-emit_handlers-loop-handler : goal.invariant-emit_handlers-loop-handler
invariant-emit_handlers-loop-handler l =
    BuildsH l.fn.draft l.draft l.scope l.around l.end l.fn.child l.at (plain_handlers (drop l.handler-index l.handlers)) (plain_handlers l.handlers)

-- ---- the depth, and of two functions that pass it on the first one's rank above the second one's

abbrev pub decreases-emit_stmt : goal.decreases-emit_stmt
decreases-emit_stmt l = 16 * goal.size-emit_stmt l

abbrev pub decreases-emit_case : goal.decreases-emit_case
decreases-emit_case l = 16 * goal.size-emit_case l

abbrev pub decreases-emit_block : goal.decreases-emit_block
decreases-emit_block l = 16 * goal.size-emit_block l + 1

abbrev pub decreases-emit_handlers : goal.decreases-emit_handlers
decreases-emit_handlers l = 16 * goal.size-emit_handlers l + 1

abbrev pub decreases-emit_if : goal.decreases-emit_if
decreases-emit_if l = 16 * max (goal.size-emit_if l) (most the_size l.rest.now) + 2

abbrev pub decreases-emit_while : goal.decreases-emit_while
decreases-emit_while l = 16 * max (most the_size l.body.now) (most the_size l.rest.now) + 2

abbrev pub decreases-emit_for : goal.decreases-emit_for
decreases-emit_for l = 16 * max (most the_size l.body.now) (most the_size l.rest.now) + 2

abbrev pub decreases-emit_last : goal.decreases-emit_last
decreases-emit_last l = 16 * goal.size-emit_last l + 2

abbrev pub decreases-emit_matched : goal.decreases-emit_matched
decreases-emit_matched l = 16 * goal.size-emit_matched l + 2

abbrev pub decreases-emit_clause : goal.decreases-emit_clause
decreases-emit_clause l = 16 * most the_size l.body.now + 3

abbrev pub decreases-emit_try : goal.decreases-emit_try
decreases-emit_try l = 16 * max (max (most the_size l.body.now) (most handler_size l.handlers.now)) (most the_size l.rest.now) + 2

abbrev pub decreases-emit_finally : goal.decreases-emit_finally
decreases-emit_finally l = 16 * max (max (max (most the_size l.body.now) (most handler_size l.handlers.now)) (most the_size l.rest.now)) (most the_size l.last.now) + 3
