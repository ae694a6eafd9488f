use Rattle.std.proofs.Common.{subst}
use Rattle.mpy_reader.specs.mpy_tree.File.{IsModule}
use Rattle.library_files.specs.Imports.{Imports}
use Rattle.library_files.proofs.Taken.{module_adds, module_steps}
use Rattle.library_files.proofs.loading.take_module.Goals as goal

pub returns-in-Ok-clause-imports : goal.returns-in-Ok-clause-imports
returns-in-Ok-clause-imports c = module_adds c.args.verified c.module-raw.result.now c.args.bytes _ _ c.add_module.result c.module-raw.ensures c.in-Ok.ensures

pub returns-in-Ok-clause-step : goal.returns-in-Ok-clause-step
returns-in-Ok-clause-step c =
    let imports = c.in-Ok.ensures in
    module_steps c.args.begun.now c.add_module.new.begun c.args.name.now c.args.verified c.args.bytes _ _ c.add_module.result
    (subst IsModule c.module-raw.ensures c.module_law.ensures) c.add_module.ensures.takes
    (imports.0, subst (λ m. Imports m imports.0) c.module-raw.ensures imports.1, imports.2)
