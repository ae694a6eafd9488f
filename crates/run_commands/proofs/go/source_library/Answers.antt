use Rattle.std.proofs.Common.{ap, subst, sym, ◌∙◌}
use Rattle.library_files.specs.Loads.{Loaded}
use Rattle.command_files.specs.mpy_endings.declared.ending.Ending.{Ending}
use Rattle.run_commands.specs.Base.{base_of}
use Rattle.run_commands.specs.Go.{RefusesSources}
use Rattle.run_commands.proofs.Going.{source_loads_of, sources_refused}
use Rattle.run_commands.proofs.go.source_library.Goals as goal

pub returns-in-Ok-load_sources-clause-comes : goal.returns-in-Ok-load_sources-clause-comes
returns-in-Ok-load_sources-clause-comes g c =
    let main = c.in-Ok.main in
    source_loads_of c.args.level (g.F.Folder.files c.args.folder.now) (g.F.Folder.files c.main_of.new.folder) c.args.name.now c.base_of.result.now main.0 main.1 (Loaded c.in-Ok-load_sources.library)
    c.in-Ok.ensures.files (c.base_of.ensures.base ∙ ap base_of c.as_bytes.ensures.value) c.in-Ok.ensures.main c.in-Ok-load_sources.ensures.loaded

pub returns-in-Err-load_sources-clause-comes : goal.returns-in-Err-load_sources-clause-comes
returns-in-Err-load_sources-clause-comes g c =
    let main = c.in-Ok.main in
    subst (λ (x : Ending). RefusesSources c.args.level (g.F.Folder.files c.args.folder.now) c.args.name.now x) (sym c.load_ending.ensures)
    (sources_refused c.args.level (g.F.Folder.files c.args.folder.now) (g.F.Folder.files c.main_of.new.folder) c.args.name.now c.base_of.result.now main.0 main.1
    c.in-Ok.ensures.files (c.base_of.ensures.base ∙ ap base_of c.as_bytes.ensures.value) c.in-Ok.ensures.main c.in-Err-load_sources.refused c.in-Err-load_sources.ensures.loaded c.in-Err-load_sources.ensures.at)

pub returns-in-Err-clause-comes : goal.returns-in-Err-clause-comes
returns-in-Err-clause-comes g c = c.in-Err.ensures.refused
