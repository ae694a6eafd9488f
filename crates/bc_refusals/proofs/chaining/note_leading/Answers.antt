use Rattle.std.proofs.Common.{◌∙◌, sym, subst}
use Rattle.std.proofs.lemmas.Bool.{OnTrue_at}
use Rattle.bc_flow.proofs.Puts.{some_is}
use Rattle.bc_certificates.specs.Checking.{Lies, at_row, rows_of}
use Rattle.bc_refusals.specs.Chains.{LeadOn}
use Rattle.bc_refusals.proofs.Runs.{more_lead}
use Rattle.bc_refusals.proofs.chaining.note_leading.Goals as goal

pub leads_on-requires : goal.leads_on-requires
leads_on-requires c = subst (LeadOn (rows_of c.args.table.now)) (sym c.deref.ensures.value) c.requires

pub returns : goal.returns
returns c =
    let rows = rows_of c.args.table.now in
    let z = at_row c.args.table.now.bases.items c.in-Some.row.now in
    subst (LeadOn rows) (sym c.note.ensures) (more_lead rows c.args.leading.now.items c.args.h c.requires
    (λ y r. subst (λ x. Lies rows x.slots x.entries) (c.in_ok-copy_row.ensures ∙ sym (some_is y z (sym r ∙ c.in-Some.ensures))) (OnTrue_at c.if-not-branch.false c.in_ok-leads_on.ensures)))
