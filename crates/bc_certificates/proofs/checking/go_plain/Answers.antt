use Rattle.std.proofs.Common.{◌≡◌, ◌∙◌, true, ap, sym}
use Rattle.bc_flow.specs.bc_shapes.Shape.{fits}
use Rattle.bc_flow.specs.bc_shapes.Views.{at_of, takes_of}
use Rattle.bc_flow.specs.Code.{code_of}
use Rattle.bc_flow.specs.Edges.{Edge, base, takes}
use Rattle.bc_flow.specs.Views.{action_of}
use Rattle.bc_certificates.proofs.Plain.{brings_plain, kept_plain}
use Rattle.bc_certificates.proofs.checking.go_plain.Goals as goal

pub returns-clause-keeps : goal.returns-clause-keeps
returns-clause-keeps c rows none =
    let i = action_of c.args.action.now in
    let x = at_of c.args.x.now in
    let fine : fits (takes i) (base i x) ≡ true = sym (ap (λ ws. fits ws (base i x)) c.takes.ensures) ∙ sym (ap (fits (takes_of c.takes.result)) c.base-base.ensures) ∙ sym c.fits.ensures ∙ c.if-not-fits.false in
    kept_plain (code_of c.args.code.now) i c.args.p x c.requires.plain c.requires.is (sym c.stays.ensures ∙ c.if-not-stays.false)
    rows none fine (sym c.room.ensures ∙ c.if-not-room.false)

pub returns-clause-brings : goal.returns-clause-brings
returns-clause-brings c =
    let i = action_of c.args.action.now in
    let x = at_of c.args.x.now in
    let slots = ap (λ (e : Edge). e.at.slots) (c.next_edge-edge.ensures x c.base-base.ensures) in
    brings_plain (code_of c.args.code.now) i c.args.p x c.requires.plain c.requires.is (sym c.stays.ensures ∙ c.if-not-stays.false)
    _ (ap (λ z. z.items) c.swap.ensures.x_after ∙ (c.in_ok-write.ensures ∙ slots))
