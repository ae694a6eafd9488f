use Rattle.std.proofs.Common.{ap, ◌∙◌}
use Rattle.bc_library.specs.Shelf.{Shelf, module_at}
use Rattle.bc_rows.proofs.Tables.{is_module}
use Rattle.bc_rows.proofs.rows.Rows.modules_law.Goals as goal

pub returns : goal.returns
returns c i m e =
    is_module c.self.inside.library.now c.self.inside.tables.items c.self.inside.named.items i m c.self.invariant
    (ap (λ (s : Shelf). module_at s i) c.self.view_is ∙ e)
