use Rattle.std.proofs.Common.{drop}
use Rattle.bc_scheme.specs.py_meaning.Plain.{Part}
use Rattle.bc_scheme.specs.py_meaning.Tree.{Branches}
use Rattle.emit_measures.proofs.Rows.{SoFar}
use Rattle.emit_measures.proofs.LayerHeights.{block_in, branches_in, handlers_in}
use Rattle.emit_measures.proofs.statement_heights.+blocks.Given as goal

abbrev pub invariant-block_height-loop-stmt : goal.invariant-block_height-loop-stmt
invariant-block_height-loop-stmt l = SoFar (block_in l.level) l.stmts (drop l.stmt-index l.stmts) l.height

abbrev pub invariant-branches_height-loop-branch : goal.invariant-branches_height-loop-branch
invariant-branches_height-loop-branch l = (rest : Part Branches) → SoFar (branches_in l.level rest) l.branches (drop l.branch-index l.branches) l.height

abbrev pub invariant-handlers_height-loop-handler : goal.invariant-handlers_height-loop-handler
invariant-handlers_height-loop-handler l = SoFar (handlers_in l.level) l.handlers (drop l.handler-index l.handlers) l.height
