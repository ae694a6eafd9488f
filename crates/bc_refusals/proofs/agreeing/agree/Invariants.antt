use Rattle.std.proofs.Common.{◌≡◌, drop, length, map}
use Rattle.bc_flow.specs.Code.{Code}
use Rattle.bc_flow.specs.Verified.{Table, agree}
use Rattle.bc_flow.specs.Views.{edge_of_rust}
use Rattle.bc_certificates.specs.Checking.{rows_of}
use Rattle.bc_certificates.specs.Rows.{carried}
use Rattle.bc_refusals.specs.Stages.{Between}
use Rattle.bc_refusals.specs.Views.{IsCarried}
use Rattle.bc_refusals.proofs.agreeing.agree.Given as goal

abbrev pub invariant-loop-k : goal.invariant-loop-k
invariant-loop-k l = (code : Code) → IsCarried code (rows_of l.table) l.carried → (t : Table) → length t ≡ length l.came → Between (carried code (rows_of l.table)) l.came t
    → agree t (map edge_of_rust l.edges) ≡ agree t (map edge_of_rust (drop l.k l.edges))
