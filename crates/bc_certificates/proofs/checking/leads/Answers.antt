use Rattle.std.proofs.Common.{◌≡◌, true, [], ◌∷◌}
use Rattle.std.proofs.lemmas.Bool.{OnTrue_at, OnTrue_from}
use Rattle.std.proofs.lemmas.Result.{IfOk-weaker}
use Rattle.bc_flow.specs.bc_shapes.Shape.{Under}
use Rattle.bc_flow.specs.Edges.{is_marked}
use Rattle.bc_flow.specs.Views.{edge_of_rust}
use Rattle.bc_certificates.specs.Checking.{Lead, at_row, rows_of}
use Rattle.bc_certificates.proofs.Checks.{lead_one}
use Rattle.bc_certificates.proofs.checking.leads.Goals as goal

pub returns-in-Some : goal.returns-in-Some
returns-in-Some c =
    let rows = rows_of c.args.table.now in
    let e = edge_of_rust c.args.edge in
    let y = at_row c.args.table.now.bases.items c.in-Some.row.now in
    IfOk-weaker c.leads_to.result _ _ (λ yes h. OnTrue_from yes (Lead rows (e ∷ []))
    (λ t. let l : (is_marked e.to e.at.entries ≡ true) × Under e.at y = OnTrue_at t h in lead_one rows e y l.0 c.in-Some.ensures l.1)) c.leads_to.ensures
