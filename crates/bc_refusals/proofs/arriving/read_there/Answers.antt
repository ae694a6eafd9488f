use Rattle.std.proofs.Common.{◌∙◌, ap, sym, Some}
use Rattle.bc_certificates.specs.Checking.{at_row, rows_of}
use Rattle.bc_certificates.proofs.Carrying.{row_carried}
use Rattle.bc_refusals.proofs.arriving.read_there.Goals as goal

pub returns-in-Some : goal.returns-in-Some
returns-in-Some c code k =
    row_carried code (rows_of c.args.table.now) c.args.p (at_row c.args.table.now.bases.items c.in-Some.row.now) c.in-Some.ensures
    ∙ ap Some (sym c.in_ok-copy_row.ensures)
