use Rattle.bc_certificates.specs.Checking.{rows_of}
use Rattle.bc_refusals.specs.Chains.{LeadOn}
use Rattle.bc_refusals.proofs.chaining.leading_handlers.Given as goal

abbrev pub invariant-loop-k : goal.invariant-loop-k
invariant-loop-k l = LeadOn (rows_of l.table) l.leading.items
