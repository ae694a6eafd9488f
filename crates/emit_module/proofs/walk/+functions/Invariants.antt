use Rattle.std.proofs.Common.{◌≤◌, ◌+◌, ◌*◌, drop}
use denote.Param.Weighed.{most}
use Rattle.py_tree.proofs.stmt.Stmt.TheLaws.{the_size}
use Rattle.tr_source.specs.py_meaning.Plain.{Part}
use Rattle.tr_source.specs.py_meaning.Tree.{Branches}
use Rattle.emit_stmt.specs.Parts.{plain_block, plain_handlers}
use Rattle.emit_module.specs.Walk.{front_defs}
use Rattle.emit_module.proofs.Forests.{SoFar}
use Rattle.emit_module.proofs.Walking.{blocks, fronts, clauses}
use Rattle.emit_module.proofs.walk.+functions.Given as goal

abbrev pub invariant-emit_defs-loop-stmt : goal.invariant-emit_defs-loop-stmt
invariant-emit_defs-loop-stmt l = record {
  few : l.children.next + (plain_block (drop l.stmt-index l.block)).defs ≤ l.fn.children.next + (plain_block l.block).defs;
  so : SoFar l.slots blocks l.block (drop l.stmt-index l.block) l.fn.children l.children;
}

abbrev pub invariant-emit_branches-loop-branch : goal.invariant-emit_branches-loop-branch
invariant-emit_branches-loop-branch l = record {
  few : l.children.next + front_defs (drop l.branch-index l.branches) ≤ l.fn.children.next + front_defs l.branches;
  so : (rest : Part Branches) → SoFar l.slots (fronts rest) l.branches (drop l.branch-index l.branches) l.fn.children l.children;
}

abbrev pub invariant-emit_handlers-loop-handler : goal.invariant-emit_handlers-loop-handler
invariant-emit_handlers-loop-handler l = record {
  few : l.children.next + (plain_handlers (drop l.handler-index l.handlers)).defs ≤ l.fn.children.next + (plain_handlers l.handlers).defs;
  so : SoFar l.slots clauses l.handlers (drop l.handler-index l.handlers) l.fn.children l.children;
}

-- ---- the depth, and of two functions that pass it on the first one's rank above the second one's

abbrev pub decreases-emit_in : goal.decreases-emit_in
decreases-emit_in l = 16 * goal.size-emit_in l

abbrev pub decreases-emit_defs : goal.decreases-emit_defs
decreases-emit_defs l = 16 * goal.size-emit_defs l + 1

abbrev pub decreases-emit_branches : goal.decreases-emit_branches
decreases-emit_branches l = 16 * goal.size-emit_branches l + 1

abbrev pub decreases-emit_handlers : goal.decreases-emit_handlers
decreases-emit_handlers l = 16 * goal.size-emit_handlers l + 1

abbrev pub decreases-emit_body : goal.decreases-emit_body
decreases-emit_body l = 16 * most the_size l.body.now + 2

abbrev pub decreases-emit_function : goal.decreases-emit_function
decreases-emit_function l = 16 * most the_size l.body.now + 3
