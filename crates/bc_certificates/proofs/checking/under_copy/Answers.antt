use Rattle.std.proofs.Common.{subst}
use Rattle.std.proofs.lemmas.Bool.{OnTrue_from}
use Rattle.bc_flow.specs.bc_shapes.Shape.{Under}
use Rattle.bc_flow.specs.bc_shapes.Views.{at_of}
use Rattle.bc_certificates.specs.Checking.{at_row}
use Rattle.bc_certificates.proofs.checking.under_copy.Goals as goal

pub returns-clause-yes : goal.returns-clause-yes
returns-clause-yes c =
    let x = at_of c.args.seen.now.came in
    let y = at_row c.args.table.now.bases.items c.args.row.now in
    OnTrue_from c.under.result (Under x y) (λ t. subst (Under x) c.in_ok-copy_row.ensures (c.under.ensures.0 t))
