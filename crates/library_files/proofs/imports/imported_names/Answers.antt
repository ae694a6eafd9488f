use Rattle.std.proofs.Common.{◌++◌, sym, ap, subst, ◌∙◌}
use Rattle.library_files.specs.Imports.{Imports}
use Rattle.library_files.proofs.imports.imported_names.Goals as goal

pub returns : goal.returns
returns c =
    let added = c.in_ok-add_names.ensures in
    let names_are = added.2 ∙ ap (λ z. z ++ added.0) c.new-names.ensures.items in
    subst (Imports c.args.module.now) (sym names_are) added.1
