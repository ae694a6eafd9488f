use Rattle.std.proofs.lemmas.Bool.{OnTrue_at, OnTrue_from}
use Rattle.std.proofs.lemmas.Result.{IfOk-weaker}
use Rattle.bc_flow.specs.bc_shapes.Views.{at_of}
use Rattle.bc_flow.specs.Code.{code_of}
use Rattle.bc_flow.specs.Views.{action_of}
use Rattle.bc_certificates.specs.Checking.{rows_of}
use Rattle.bc_certificates.specs.Rows.{carried}
use Rattle.bc_refusals.specs.Stages.{Keeps}
use Rattle.bc_refusals.proofs.Starts.{rows_begin, rows_lead}
use Rattle.bc_refusals.proofs.walk.keeps_each.Goals as goal

pub returns : goal.returns
returns c =
    let code = code_of c.args.code.now in
    let rows = rows_of c.args.table.now in
    let came = c.args.came.now in
    let i = action_of c.args.action.now in
    let x = at_of c.args.x.now in
    let es = c.args.edges.now in
    let rs = c.edges_to_rows-to_rows.result.now in
    IfOk-weaker c.all_begin.result _ _ (λ yes h. OnTrue_from yes (Keeps code (carried code rows) came c.args.p x) (λ t. record {
      action = i;
      is = c.requires.action_is;
      own = OnTrue_at c.if-not-keeps_own.false c.keeps_own.ensures;
      lead = rows_lead code rows came c.args.p i x es c.requires.action_is c.requires.there c.requires.along rs c.args.inner c.requires.inner_is c.edges_to_rows-to_rows.ensures c.requires.long
          (OnTrue_at c.if-not-branch.false (c.in_ok-all_lead.ensures code c.requires.carried_is));
      begins = rows_begin code rows came c.args.p i x es c.requires.action_is c.requires.there c.requires.along rs c.args.inner c.requires.inner_is c.edges_to_rows-to_rows.ensures (OnTrue_at t h);
    })) (c.all_begin.ensures code c.requires.carried_is)
