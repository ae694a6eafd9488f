use Rattle.std.proofs.Common.{◌∙◌, ap, sym}
use Rattle.std.proofs.lemmas.Bool.{OnFalse_at, OnTrue_at, OnTrue_from}
use Rattle.std.proofs.lemmas.Result.{IfOk-weaker}
use Rattle.bc_flow.specs.bc_shapes.Views.{at_of}
use Rattle.bc_flow.specs.Views.{action_of}
use Rattle.bc_certificates.specs.Rows.{at_if}
use Rattle.bc_certificates.specs.Checking.{is_plain, rows_of}
use Rattle.bc_certificates.proofs.checking.go_on.Goals as goal

pub go_plain-requires-clause-plain : goal.go_plain-requires-clause-plain
go_plain-requires-clause-plain c =
    ap (is_plain (action_of c.action_in-action.result)) (sym c.deref.ensures.value) ∙ sym c.is_plain.ensures ∙ c.if-not-is_plain.false

pub go_plain-requires-clause-is : goal.go_plain-requires-clause-is
go_plain-requires-clause-is c = c.action_in-action.ensures

pub returns-clause-keeps : goal.returns-clause-keeps
returns-clause-keeps c = c.go_plain.ensures.keeps (rows_of c.args.table.now) (OnFalse_at c.if-has_next_row.false c.has_next_row.ensures)

pub returns-clause-brings : goal.returns-clause-brings
returns-clause-brings c =
    IfOk-weaker c.go_plain.result _ _ (λ yes h. OnTrue_from yes _ (λ t. ap (λ b. at_if b (at_of c.go_plain.new.x)) c.requires.here ∙ OnTrue_at t h)) c.go_plain.ensures.brings
