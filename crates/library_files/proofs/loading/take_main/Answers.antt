use Rattle.std.proofs.Common.{List, ℕ, refl, sym, ap, subst, ◌∙◌}
use Rattle.qstr_pool.specs.Pool.{Texts}
use Rattle.mpy_reader.specs.mpy_tree.File.{IsModule}
use Rattle.library_files.specs.declared.entry.Entry.TheVariants as entries
use Rattle.library_files.specs.Steps.{AddsImports, AreShort}
use Rattle.library_files.proofs.Whole.{is_begun, not_begun}
use Rattle.library_files.proofs.loading.take_main.Goals as goal

pub returns-in-Ok : goal.returns-in-Ok
returns-in-Ok c =
    is_begun c.args.main c.args.size c.args.begun c.take_module.new.begun _ c.requires.library_is c.requires.size_is refl c.take_module.new.found.items c.reversed.result.items
    (subst IsModule c.module.ensures c.module_law.ensures) c.in-Ok.ensures.takes
    (subst (λ (z : List (List ℕ)). AddsImports (entries.Held c.args.main c.args.size) z c.take_module.new.found.items) c.new-imports.ensures.items c.in-Ok.ensures.imports)
    (c.in-Ok.ensures.step.short (subst AreShort (sym c.new-imports.ensures.items) tt)) c.reversed.ensures
    (ap (λ (t : Texts). t.texts) c.in-Ok.ensures.absent ∙ c.requires.absent_is)

pub returns-in-Err : goal.returns-in-Err
returns-in-Err c = not_begun c.args.main c.args.size c.args.begun c.take_module.new.begun _ c.requires.library_is c.requires.size_is refl c.in-Err.refused c.in-Err.ensures.takes
