use Rattle.bc_flow.specs.Code.{code_of}
use Rattle.bc_certificates.specs.Checking.{rows_of}
use Rattle.bc_refusals.specs.Walks.{Follows}
use Rattle.bc_refusals.proofs.walk.fault_by.Given as goal

abbrev pub invariant-loop-turn : goal.invariant-loop-turn
invariant-loop-turn l = Follows (code_of l.code) (rows_of l.table) l.walk
