use Rattle.std.proofs.Common.{◌≡◌, ◌∙◌, ap, sym, subst, length, rules}
use Rattle.std.proofs.lemmas.Bool.{OnTrue_at}
use Rattle.bc_flow.specs.bc_shapes.Views.{at_of}
use Rattle.bc_flow.specs.Code.{code_of}
use Rattle.bc_flow.specs.Views.{action_of}
use Rattle.bc_certificates.specs.Checking.{Lead, fits_entries, ordered, rows_of}
use Rattle.bc_certificates.proofs.checking.stands.Goals as goal

pub returns : goal.returns
returns c =
    let code = code_of c.args.code.now in
    let i = action_of c.args.action.now in
    let x = at_of c.args.x.now in
    let long : c.len.result ≡ length x.slots = search rules in
    let entries : c.fits_entries.result ≡ fits_entries code i (length x.slots) x.entries =
    c.fits_entries.ensures ∙ ap (λ n. fits_entries code i n c.deref.result.now) long ∙ ap (fits_entries code i (length x.slots)) c.deref.ensures.value in
    let long-2 : c.len-2.result ≡ length x.slots = search rules in
    let order : c.are_ordered.result ≡ ordered (length x.slots) c.args.p x.entries =
    c.are_ordered.ensures ∙ ap (λ n. ordered n c.args.p c.deref-2.result.now) long-2 ∙ ap (ordered (length x.slots) c.args.p) c.deref-2.ensures.value in
    record {
      entries = sym entries ∙ c.if-not-fits_entries.false;
      order = sym order ∙ c.if-not-are_ordered.false;
      height = sym c.finds.ensures ∙ c.if-not-finds.false;
      state = sym c.room.ensures ∙ c.if-not-room.false;
      falls = sym c.stays.ensures ∙ c.if-not-stays.false;
      jumps = OnTrue_at c.if-not-branch.false c.in_ok-jump_leads.ensures;
      raises = subst (Lead (rows_of c.args.table.now)) (c.raise_edge.ensures i) (OnTrue_at c.if-not-branch-2.false c.in_ok-leads_if.ensures);
    }
