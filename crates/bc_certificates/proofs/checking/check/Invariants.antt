use Rattle.bc_flow.specs.bc_shapes.Views.{at_of}
use Rattle.bc_flow.specs.Code.{code_of}
use Rattle.bc_certificates.specs.Rows.{at_if}
use Rattle.bc_certificates.specs.Checking.{rows_of}
use Rattle.bc_certificates.proofs.Checks.{Checked}
use Rattle.bc_certificates.proofs.checking.check.Given as goal

abbrev pub invariant-loop-p : goal.invariant-loop-p
invariant-loop-p l = Checked (code_of l.code) (rows_of l.table) l.p (at_if l.held.here (at_of l.held.x))
