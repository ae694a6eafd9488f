use Rattle.std.proofs.Common.{refl, sym, subst}
use Rattle.std.proofs.lemmas.Result.{on_ok_weaker}
use Rattle.mpy_reader.specs.mpy_tree.Resolved.{ResolvesCode}
use Rattle.library_files.specs.Imports.{imports_of}
use Rattle.library_files.proofs.imports.add_names.Goals as goal

pub add_imports-requires-clause-resolves : goal.add_imports-requires-clause-resolves
add_imports-requires-clause-resolves c =
    let there = c.resolves_law.ensures.tree c.args.module.now c.module_law.ensures in
    (there.0.code, subst (ResolvesCode c.args.module.now there.0.code) (sym c.code.ensures) there.1.code)

pub returns : goal.returns
returns c =
    let there = c.resolves_law.ensures.tree c.args.module.now c.module_law.ensures in
    let code = subst (ResolvesCode c.args.module.now there.0.code) (sym c.code.ensures) there.1.code in
    on_ok_weaker c.add_imports.result
    (λ names. (imports_of there.0.code, record { tree = there.0; resolves = there.1; names_are = refl }, names there.0.code code))
    c.add_imports.ensures
