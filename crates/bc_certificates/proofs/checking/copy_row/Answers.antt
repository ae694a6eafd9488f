use Rattle.std.proofs.Common.{◌≡◌, ◌∙◌, Some, None, ap, sym}
use Rattle.std.specs.Prelude.{slice_get}
use Rattle.std.proofs.lemmas.Result.{on_ok_weaker}
use Rattle.bc_flow.specs.bc_shapes.Views.{at_of}
use Rattle.bc_certificates.specs.Checking.{on_base}
use Rattle.bc_certificates.proofs.checking.copy_row.Goals as goal

pub returns-in-None : goal.returns-in-None
returns-in-None c =
    let r = c.args.row.now in
    let none : slice_get c.args.table.now.bases.items r.base ≡ None = ap (λ bs. slice_get bs r.base) (sym c.deref.ensures.value) ∙ c.in-None.ensures in
    c.in_ok-copy.ensures ∙ ap (on_base (at_of r.top) r.slots r.entries) (sym none)

pub returns-in-Some : goal.returns-in-Some
returns-in-Some c =
    let r = c.args.row.now in
    let b = c.in-Some.base.now in
    let some : slice_get c.args.table.now.bases.items r.base ≡ Some b = ap (λ bs. slice_get bs r.base) (sym c.deref.ensures.value) ∙ c.in-Some.ensures in
    on_ok_weaker c.put_on.result (λ h. h ∙ ap (λ z. on_base z r.slots r.entries (Some b)) c.in_ok-copy.ensures ∙ ap (on_base (at_of r.top) r.slots r.entries) (sym some)) c.put_on.ensures
