use Rattle.std.proofs.Common.{◌∙◌, length, subst, sym}
use Rattle.std.proofs.lemmas.Bool.{OnTrue_at, OnTrue_from}
use Rattle.std.proofs.lemmas.Result.{IfOk-weaker}
use Rattle.bc_flow.specs.bc_shapes.Views.{at_of}
use Rattle.bc_flow.specs.Code.{code_of}
use Rattle.bc_flow.specs.Edges.{edges}
use Rattle.bc_flow.specs.Views.{action_of}
use Rattle.bc_certificates.specs.Checking.{Lies, rows_of}
use Rattle.bc_certificates.specs.Rows.{carried}
use Rattle.bc_refusals.specs.Chains.{AllInside, SetAll}
use Rattle.bc_refusals.specs.Stages.{BeginAll, Keeps}
use Rattle.bc_refusals.proofs.Runs.{leaves, lies_by}
use Rattle.bc_refusals.proofs.leaving.keeps_leaving.Goals as goal

pub returns : goal.returns
returns c =
    let code = code_of c.args.code.now in
    let rows = rows_of c.args.table.now in
    let came = c.args.came.now in
    let i = action_of c.args.action.now in
    let x = at_of c.args.x.now in
    let s = OnTrue_at c.if-not-branch.false c.in_ok-stands.ensures in
    let set = subst (SetAll c.args.leading.now) (c.raise_edge.ensures i) (OnTrue_at c.if-not-ends_set.false c.ends_set.ensures) in
    let lies : Lies rows x.slots x.entries = lies_by rows c.args.leading.now i x c.args.p c.requires.leading_are s.order s.raises set in
    let inside : AllInside (length came) (edges code i c.args.p x) = subst (AllInside (length came)) c.requires.along (OnTrue_at c.if-not-all_inside.false c.all_inside.ensures) in
    IfOk-weaker c.all_begin.result _ _ (λ yes h. OnTrue_from yes (Keeps code (carried code rows) came c.args.p x)
    (λ t. leaves code rows came c.args.p i x c.requires.action_is s (sym c.falls.ensures ∙ c.if-falls.false) lies inside
    (subst (λ z. BeginAll (carried code rows) came z z) c.requires.along (OnTrue_at t h)))) (c.all_begin.ensures code c.requires.carried_is)
