use Rattle.std.proofs.Common.{drop, map}
use Rattle.bc_flow.specs.Code.{Code}
use Rattle.bc_flow.specs.Views.{edge_of_rust}
use Rattle.bc_certificates.specs.Checking.{rows_of}
use Rattle.bc_certificates.specs.Rows.{carried}
use Rattle.bc_refusals.specs.Stages.{LeadAll}
use Rattle.bc_refusals.specs.Views.{IsCarried}
use Rattle.bc_refusals.proofs.arriving.all_lead.Given as goal

abbrev pub invariant-loop-edge : goal.invariant-loop-edge
invariant-loop-edge l = (code : Code) → IsCarried code (rows_of l.table) l.carried → LeadAll (carried code (rows_of l.table)) l.came (map edge_of_rust (drop l.edge-index l.edges))
    → LeadAll (carried code (rows_of l.table)) l.came (map edge_of_rust l.edges)
