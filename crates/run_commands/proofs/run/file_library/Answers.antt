use Rattle.std.proofs.Common.{ap, refl, subst, sym, ◌∙◌}
use Rattle.library_files.specs.Loads.{Loaded}
use Rattle.command_files.specs.mpy_endings.declared.ending.Ending.{Ending}
use Rattle.run_commands.specs.Base.{base_of}
use Rattle.run_commands.specs.Run.{RefusesLibrary}
use Rattle.run_commands.proofs.Running.{main_from, loads_of, load_refuses, bytes_refuse, refused_unloaded}
use Rattle.run_commands.proofs.run.file_library.Goals as goal

pub returns-in-Ok-load-clause-comes : goal.returns-in-Ok-load-clause-comes
returns-in-Ok-load-clause-comes g c =
    let main = c.in-Ok.main in
    let files = g.F.Folder.files c.args.folder.now in
    loads_of files files c.args.name.now c.base_of.result.now main.0 main.1 (Loaded c.in-Ok-load.library)
    refl (c.base_of.ensures.base ∙ ap base_of c.as_bytes.ensures.value) (main_from files c.args.name.now c.args.bytes.now main c.requires c.in-Ok.ensures) c.in-Ok-load.ensures.loaded

pub returns-in-Err-load-clause-comes : goal.returns-in-Err-load-clause-comes
returns-in-Err-load-clause-comes g c =
    let main = c.in-Ok.main in
    let files = g.F.Folder.files c.args.folder.now in
    subst (λ (x : Ending). RefusesLibrary files c.args.name.now x) (sym c.load_ending.ensures)
    (load_refuses files files c.args.name.now c.base_of.result.now main.0 main.1 c.in-Err-load.refused
    refl (c.base_of.ensures.base ∙ ap base_of c.as_bytes.ensures.value) (main_from files c.args.name.now c.args.bytes.now main c.requires c.in-Ok.ensures) c.in-Err-load.ensures.loaded c.in-Err-load.ensures.at)

pub returns-in-Err-clause-comes : goal.returns-in-Err-clause-comes
returns-in-Err-clause-comes g c = bytes_refuse (g.F.Folder.files c.args.folder.now) c.args.name.now c.args.bytes.now c.in-Err.ending c.requires c.in-Err.ensures

pub returns-in-Err-clause-unloaded : goal.returns-in-Err-clause-unloaded
returns-in-Err-clause-unloaded g c =
    refused_unloaded (g.F.Folder.files c.args.folder.now) c.args.name.now c.in-Err.ending (bytes_refuse (g.F.Folder.files c.args.folder.now) c.args.name.now c.args.bytes.now c.in-Err.ending c.requires c.in-Err.ensures)
