use Rattle.std.proofs.Common.{◌∙◌, ap, sym, subst}
use Rattle.std.proofs.lemmas.Bool.{OnTrue_at}
use Rattle.std.proofs.lemmas.Option.{none-some, same_Some}
use Rattle.bc_flow.specs.bc_shapes.Views.{at_of}
use Rattle.bc_flow.specs.Code.{code_of}
use Rattle.bc_certificates.specs.Rows.{at_if, brought}
use Rattle.bc_certificates.specs.Checking.{Kept, rows_of}
use Rattle.bc_certificates.proofs.checking.go_if.Goals as goal

pub returns-then-not-held-clause-keeps : goal.returns-then-not-held-clause-keeps
returns-then-not-held-clause-keeps c x e =
    let none = ap (λ b. at_if b (at_of c.args.held.now.x)) c.if-not-held.true in
    absurd (none-some x (sym none ∙ e))

pub returns-then-not-held-clause-brings : goal.returns-then-not-held-clause-brings
returns-then-not-held-clause-brings c =
    let none = ap (λ b. at_if b (at_of c.args.held.now.x)) c.if-not-held.true in
    none ∙ sym (ap (brought (code_of c.args.code.now) c.args.p) none)

pub returns-clause-keeps : goal.returns-clause-keeps
returns-clause-keeps c x e =
    let some = ap (λ b. at_if b (at_of c.args.held.now.x)) c.if-not-held.false in
    subst (Kept (code_of c.args.code.now) (rows_of c.args.table.now) c.args.p) (same_Some _ x (sym some ∙ e)) (OnTrue_at c.if-not-branch.false c.in_ok-go_on.ensures.keeps)

pub returns-clause-brings : goal.returns-clause-brings
returns-clause-brings c =
    let some = ap (λ b. at_if b (at_of c.args.held.now.x)) c.if-not-held.false in
    OnTrue_at c.if-not-branch.false c.in_ok-go_on.ensures.brings ∙ sym (ap (brought (code_of c.args.code.now) c.args.p) some)
