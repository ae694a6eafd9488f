use Rattle.std.proofs.Common.{◌≡◌, Some, None, sym, ap, subst, ◌∙◌}
use Rattle.bc_library.specs.Shelf.{Shelf}
use Rattle.vm_starting.specs.vm_states.bc_rows.Codes.{code_numbered}
use Rattle.vm_starting.specs.vm_states.bc_rows.Rows.{IsRow}
use Rattle.snap_loading.proofs.Entitled.{runs, one_title}
use Rattle.snap_loading.proofs.titles.code_title.Goals as goal

pub unreachable-requires : goal.unreachable-requires
unreachable-requires c =
    let there = c.requires.there in
    let none = ap (λ (z : Shelf). code_numbered z c.args.module_number c.args.code) (sym c.requires.rows) ∙ c.in_default.ensures.none in
    let no : Some there.placed ≡ None = sym there.there ∙ none in
    cc

pub returns : goal.returns
returns c title are =
    let shelf = c.args.library.now in
    let p = c.program_law.ensures.exists shelf (runs shelf c.modules_law.ensures.distinct c.modules_law.ensures.files c.modules_law.ensures.verified) in
    one_title c.code_law.ensures shelf p.0 p.1 c.library_law.ensures.one_number c.args.module_number c.args.code c.in-Some.row.now
    (subst (λ (z : Shelf). IsRow z c.args.module_number c.args.code c.in-Some.row.now) c.requires.rows c.in-Some.ensures.is) title are
