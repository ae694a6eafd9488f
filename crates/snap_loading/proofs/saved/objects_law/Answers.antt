use Rattle.std.proofs.Common.{subst}
use Rattle.bc_library.specs.Shelf.{Shelf}
use Rattle.vm_starting.specs.Programs.{FindsAll}
use Rattle.snap_loading.proofs.Gathering.{gathered}
use Rattle.snap_loading.proofs.Granting.{objects_fine}
use Rattle.snap_loading.proofs.saved.objects_law.Goals as goal

pub returns : goal.returns
returns c shelf vm tabled named is saved roomy =
    let p = c.program_law.ensures.exists shelf is.runnable in
    objects_fine shelf vm p.0 is p.1 named tabled.texts tabled.rows roomy (gathered shelf vm p.0 is saved p.1)
    (subst (λ (z : Shelf). FindsAll z p.0.library) p.1.shelf_is (c.program_law.ensures.finds p.0 p.1.means))
    c.rows_law.ensures.as_many c.rows_law.ensures.runs c.names_law.ensures.last
