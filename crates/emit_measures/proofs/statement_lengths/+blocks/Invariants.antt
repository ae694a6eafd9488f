use Rattle.std.proofs.Common.{◌≡◌, ℕ, ◌+◌, drop, length}
use Rattle.bc_scheme.specs.py_meaning.Plain.{Part}
use Rattle.bc_scheme.specs.py_meaning.Tree.{Branches}
use Rattle.bc_scheme.specs.Statements.{is_over}
use Rattle.emit_measures.proofs.Sums.{Summed}
use Rattle.emit_measures.proofs.LayerLengths.{block_in, branches_in, handlers_in}
use Rattle.emit_measures.proofs.statement_lengths.+blocks.Given as goal

abbrev pub invariant-block_length-loop-stmt : goal.invariant-block_length-loop-stmt
invariant-block_length-loop-stmt l = Summed (block_in l.locals l.level l.held l.iterator') l.stmts (drop l.stmt-index l.stmts) l.length

abbrev pub invariant-branches_length-loop-branch : goal.invariant-branches_length-loop-branch
invariant-branches_length-loop-branch l = record {
  left : l.left + l.branch-index ≡ length l.branches;
  so_far : (rest : Part Branches) → ((m : ℕ) → is_over (rest.make m) ≡ l.bare) → Summed (branches_in l.locals l.level l.held l.iterator' rest) l.branches (drop l.branch-index l.branches) l.length;
}

abbrev pub invariant-handlers_length-loop-handler : goal.invariant-handlers_length-loop-handler
invariant-handlers_length-loop-handler l = Summed (handlers_in l.locals l.level l.iterator') l.handlers (drop l.handler-index l.handlers) l.length
