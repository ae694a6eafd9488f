use Rattle.std.proofs.Common.{◌∙◌, ap, inl, map, subst}
use Rattle.std.proofs.lemmas.Bool.{OnTrue_at}
use Rattle.std.specs.Bool.{OnTrue}
use Rattle.std.specs.Prelude.{IfOk}
use Rattle.bc_flow.proofs.Walks.{if_ok_map}
use Rattle.bc_flow.specs.Code.{code_of}
use Rattle.bc_flow.specs.Views.{edge_of_rust}
use Rattle.bc_certificates.specs.Checking.{rows_of}
use Rattle.bc_certificates.specs.Rows.{carried}
use Rattle.bc_refusals.specs.Stages.{Clashes}
use Rattle.bc_refusals.proofs.Steps.{apart_clash}
use Rattle.bc_refusals.proofs.refusing.clashes_first.Goals as goal

pub returns-then-branch : goal.returns-then-branch
returns-then-branch c =
    subst (Clashes (carried (code_of c.args.code.now) (rows_of c.args.table.now)) c.args.came.now)
    (ap (map edge_of_rust) c.deref.ensures.value ∙ c.in_ok-edges.ensures)
    (inl (OnTrue_at c.if-branch.true (c.in_ok-any_clash.ensures (code_of c.args.code.now) c.requires.carried_is)))

pub returns : goal.returns
returns c =
    let a = carried (code_of c.args.code.now) (rows_of c.args.table.now) in
    subst (λ es. IfOk c.any_apart.result (λ yes. OnTrue yes (Clashes a c.args.came.now es)))
    (ap (map edge_of_rust) c.deref-2.ensures.value ∙ c.in_ok-edges.ensures)
    (if_ok_map c.any_apart.result _ _ (apart_clash a c.args.came.now _) c.any_apart.ensures)
