use Rattle.std.proofs.Common.{◌∙◌, ap, map, sym}
use Rattle.std.specs.Prelude.{option_map}
use Rattle.bc_certificates.specs.Checking.{at_row}
use Rattle.bc_certificates.specs.Rows.{row}
use Rattle.bc_certificates.proofs.checking.row_at.Goals as goal

pub returns : goal.returns
returns c =
    let bases = c.args.table.now.bases.items in
    ap (λ rs. row (map (option_map (at_row bases)) rs) c.args.p) (sym c.deref.ensures.value) ∙ c.row_in.ensures bases
