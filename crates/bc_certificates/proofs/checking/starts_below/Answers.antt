use Rattle.std.proofs.Common.{subst}
use Rattle.std.proofs.lemmas.Bool.{OnTrue_at, OnTrue_from}
use Rattle.std.proofs.lemmas.Result.{IfOk-weaker}
use Rattle.bc_flow.specs.bc_shapes.Shape.{Under}
use Rattle.bc_certificates.specs.Checking.{Begins, at_row, rows_of}
use Rattle.bc_certificates.proofs.Checks.{begins_at}
use Rattle.bc_certificates.proofs.checking.starts_below.Goals as goal

pub returns-in-Some : goal.returns-in-Some
returns-in-Some c =
    let rows = rows_of c.args.table.now in
    let y = at_row c.args.table.now.bases.items c.in-Some.row.now in
    IfOk-weaker c.under_row.result _ _ (λ yes h. OnTrue_from yes (Begins rows)
    (λ t. begins_at rows y c.in-Some.ensures (subst (λ z. Under z y) c.requires (OnTrue_at t h)))) c.under_row.ensures.yes
