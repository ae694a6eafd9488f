use Rattle.std.proofs.Common.{◌∙◌, sym, subst}
use Rattle.std.specs.Prelude.{IfSome}
use Rattle.std.proofs.lemmas.Bool.{OnTrue_at, OnTrue_from}
use Rattle.std.proofs.lemmas.Result.{IfOk-weaker}
use Rattle.bc_flow.specs.bc_shapes.Shape.{Under}
use Rattle.bc_flow.specs.Views.{edge_of_rust}
use Rattle.bc_certificates.specs.Checking.{Falls, at_row, rows_of}
use Rattle.bc_certificates.proofs.checking.falls_to.Goals as goal

pub returns-in-None-clause-may : goal.returns-in-None-clause-may
returns-in-None-clause-may c =
    let e = edge_of_rust c.args.edge in record {
      marked = sym c.are_marked.ensures ∙ c.if-not-are_marked.false;
      below = subst (λ o. IfSome o (λ y. Under e.at y)) (sym c.in-None.ensures) tt;
    }

pub returns-in-Some-clause-may : goal.returns-in-Some-clause-may
returns-in-Some-clause-may c =
    let e = edge_of_rust c.args.edge in
    let y = at_row c.args.table.now.bases.items c.in-Some.row.now in
    IfOk-weaker c.under_row.result _ _ (λ yes h. OnTrue_from yes (Falls (rows_of c.args.table.now) e) (λ t. record {
      marked = sym c.are_marked.ensures ∙ c.if-not-are_marked.false;
      below = subst (λ o. IfSome o (λ z. Under e.at z)) (sym c.in-Some.ensures) (subst (λ z. Under z y) c.in_ok-write.ensures (OnTrue_at t h));
    })) c.under_row.ensures.yes

pub returns-in-Some-clause-brings : goal.returns-in-Some-clause-brings
returns-in-Some-clause-brings c =
    let e = edge_of_rust c.args.edge in
    IfOk-weaker c.under_row.result _ _ (λ yes h. OnTrue_from yes _ (λ t. h ∙ c.in_ok-write.ensures)) c.under_row.ensures.came
