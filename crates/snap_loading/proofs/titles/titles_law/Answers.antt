use Rattle.std.proofs.Common.{ap, subst, ◌∙◌}
use Rattle.bc_library.specs.Shelf.{Shelf}
use Rattle.vm_starting.specs.vm_states.bc_rows.declared.row.Row.{Row}
use Rattle.vm_starting.specs.vm_states.bc_rows.Codes.{code_numbered}
use Rattle.vm_starting.specs.vm_states.bc_rows.Rows.{IsRow}
use Rattle.snap_loading.proofs.Entitled.{runs, title_of, titles, titles_agree}
use Rattle.snap_loading.proofs.titles.titles_law.Goals as goal

pub returns-clause-titles : goal.returns-clause-titles
returns-clause-titles c =
    let shelf = c.args.library.now in
    let p = c.program_law.ensures.exists shelf (runs shelf c.modules_law.ensures.distinct c.modules_law.ensures.files c.modules_law.ensures.verified) in
    (title_of shelf p.0, titles c.code_law.ensures shelf p.0 p.1 c.library_law.ensures.first)

pub returns-clause-one : goal.returns-clause-one
returns-clause-one c a b m code are others has =
    let shelf = c.args.library.now in
    let p = c.program_law.ensures.exists shelf (runs shelf c.modules_law.ensures.distinct c.modules_law.ensures.files c.modules_law.ensures.verified) in
    let row = c.codes_law.ensures m code has.placed (ap (λ (z : Shelf). code_numbered z m code) c.requires ∙ has.there) in
    titles_agree c.code_law.ensures shelf p.0 p.1 c.library_law.ensures.one_number m code row.0 (subst (λ (z : Shelf). IsRow z m code row.0) c.requires row.1) a b are others

pub returns-clause-rows : goal.returns-clause-rows
returns-clause-rows c m code has =
    subst (λ (z : Shelf). (row : Row) × IsRow z m code row) c.requires (c.codes_law.ensures m code has.placed (ap (λ (z : Shelf). code_numbered z m code) c.requires ∙ has.there))
