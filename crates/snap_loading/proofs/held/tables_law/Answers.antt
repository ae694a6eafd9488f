use Rattle.std.proofs.Common.{ap, subst, ◌∙◌, arith}
use Rattle.bc_library.specs.Shelf.{Shelf}
use Rattle.vm_starting.specs.vm_states.bc_rows.declared.row.Row.{Row}
use Rattle.vm_starting.specs.vm_states.bc_rows.Codes.{code_numbered}
use Rattle.vm_starting.specs.vm_states.bc_rows.Rows.{IsRow}
use Rattle.snap_loading.proofs.held.tables_law.Goals as goal

pub returns : goal.returns
returns c =
    let few = c.library_law.ensures.few in
    record {
      first = c.library_law.ensures.first;
      few = omega (arith, few);
      texts = record { texts = c.texts_law.ensures };
      rows = record {
        rows = λ m code placed e. subst (λ (z : Shelf). (row : Row) × IsRow z m code row) c.requires
            (c.codes_law.ensures m code placed (ap (λ (z : Shelf). code_numbered z m code) c.requires ∙ e));
      };
    }
