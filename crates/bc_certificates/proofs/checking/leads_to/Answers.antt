use Rattle.std.proofs.Common.{◌≡◌, ◌∙◌, true, sym, subst}
use Rattle.std.proofs.lemmas.Bool.{OnTrue_at, OnTrue_from}
use Rattle.std.proofs.lemmas.Result.{IfOk-weaker}
use Rattle.bc_flow.specs.bc_shapes.Shape.{Under}
use Rattle.bc_flow.specs.Edges.{is_marked}
use Rattle.bc_flow.specs.Views.{edge_of_rust}
use Rattle.bc_certificates.specs.Checking.{at_row}
use Rattle.bc_certificates.proofs.checking.leads_to.Goals as goal

pub returns : goal.returns
returns c =
    let e = edge_of_rust c.args.edge in
    let y = at_row c.args.table.now.bases.items c.args.row.now in
    IfOk-weaker c.under_row.result _ _ (λ yes h. OnTrue_from yes ((is_marked e.to e.at.entries ≡ true) × Under e.at y)
    (λ t. (sym c.are_marked.ensures ∙ c.if-not-are_marked.false, subst (λ z. Under z y) c.in_ok-write.ensures (OnTrue_at t h)))) c.under_row.ensures.yes
