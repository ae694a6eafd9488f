use Rattle.std.proofs.Common.{◌≡◌, ◌∙◌, None, ap, subst, sym}
use Rattle.std.specs.Prelude.{slice_get}
use Rattle.std.proofs.lemmas.Bool.{OnTrue_from}
use Rattle.bc_flow.specs.bc_shapes.Shape.{Under}
use Rattle.bc_flow.specs.bc_shapes.Views.{at_of}
use Rattle.bc_certificates.specs.Checking.{at_row, on_base}
use Rattle.bc_certificates.proofs.checking.under_row.Goals as goal

pub returns-in-None-clause-yes : goal.returns-in-None-clause-yes
returns-in-None-clause-yes c =
    let r = c.args.row.now in
    let bases = c.args.table.now.bases.items in
    let x = at_of c.args.seen.now.came in
    let none : slice_get bases r.base ≡ None = ap (λ bs. slice_get bs r.base) (sym c.deref.ensures.value) ∙ c.in-None.ensures in
    OnTrue_from c.under.result (Under x (at_row bases r))
    (λ t. subst (Under x) (ap (on_base (at_of r.top) r.slots r.entries) (sym none)) (c.under.ensures.0 t))
