use Rattle.std.proofs.Common.{drop}
use Rattle.bc_scheme.specs.py_meaning.Plain.{Part}
use Rattle.bc_scheme.specs.py_meaning.Tree.{Branches}
use Rattle.emit_measures.proofs.Rows.{SoFar}
use Rattle.emit_measures.proofs.LayerHeights.{block_held, branches_held, handlers_held}
use Rattle.emit_measures.proofs.entries.+entries.Given as goal

abbrev pub invariant-block_entries-loop-stmt : goal.invariant-block_entries-loop-stmt
invariant-block_entries-loop-stmt l = SoFar block_held l.stmts (drop l.stmt-index l.stmts) l.entries

abbrev pub invariant-branches_entries-loop-branch : goal.invariant-branches_entries-loop-branch
invariant-branches_entries-loop-branch l = (rest : Part Branches) → SoFar (branches_held rest) l.branches (drop l.branch-index l.branches) l.entries

abbrev pub invariant-handlers_entries-loop-handler : goal.invariant-handlers_entries-loop-handler
invariant-handlers_entries-loop-handler l = SoFar handlers_held l.handlers (drop l.handler-index l.handlers) l.entries
