use Rattle.std.proofs.lemmas.Bool.{OnTrue_at}
use Rattle.bc_flow.specs.Code.{code_of}
use Rattle.bc_certificates.specs.Rows.{carried}
use Rattle.bc_certificates.specs.Checking.{rows_of}
use Rattle.bc_certificates.proofs.Carrying.{certified}
use Rattle.bc_refusals.proofs.judging.judge.Goals as goal

pub returns-then-branch : goal.returns-then-branch
returns-then-branch c =
    let code = code_of c.args.code.now in
    let rows = rows_of c.in-Some.table in
    (carried code rows, certified code rows (OnTrue_at c.if-branch.true c.in_ok-check.ensures))
