use Rattle.std.proofs.lemmas.Bool.{OnTrue_at, OnTrue_from}
use Rattle.std.proofs.lemmas.Result.{IfOk-weaker}
use Rattle.bc_flow.specs.Code.{code_of}
use Rattle.bc_flow.specs.Verified.{Verified}
use Rattle.bc_certificates.specs.Rows.{carried}
use Rattle.bc_certificates.specs.Checking.{rows_of}
use Rattle.bc_certificates.proofs.Carrying.{certified}
use Rattle.bc_certificates.proofs.searching.certified.Goals as goal

pub returns-in-Some : goal.returns-in-Some
returns-in-Some c =
    let code = code_of c.args.code.now in
    let rows = rows_of c.in-Some.table in
    IfOk-weaker c.check.result _ _ (λ yes h. OnTrue_from yes (Verified code) (λ e. (carried code rows, certified code rows (OnTrue_at e h)))) c.check.ensures
