use Rattle.std.proofs.Common.{ap, subst, ◌∙◌}
use Rattle.bc_library.specs.Shelf.{Shelf}
use Rattle.bc_rows.specs.Codes.{code_numbered}
use Rattle.bc_rows.specs.Rows.{IsRow}
use Rattle.bc_rows.specs.declared.row.Row.{Row}
use Rattle.bc_rows.proofs.Tables.{has_row}
use Rattle.bc_rows.proofs.rows.Rows.codes_law.Goals as goal

pub returns : goal.returns
returns c i k code e =
    subst (λ (s : Shelf). (row : Row) × IsRow s i k row) c.self.view_is
    (has_row c.self.inside.library.now c.self.inside.tables.items c.self.inside.named.items i k code c.self.invariant
    (ap (λ (s : Shelf). code_numbered s i k) c.self.view_is ∙ e))
