use Rattle.std.proofs.Common.{Bool, Err, sym, subst}
use Rattle.mpy_io.specs.Count.{Counts}
use Rattle.command_files.specs.mpy_endings.declared.ending.Ending.{Ending}
use Rattle.run_commands.specs.Ready.{FirstOf}
use Rattle.run_commands.specs.Run.{FileLibrary, IsUnloaded}
use Rattle.run_commands.proofs.Starting.{first_of, first_failed, first_unloaded}
use Rattle.run_commands.proofs.run.file_ready.Goals as goal

pub returns-in-Err-clause-comes : goal.returns-in-Err-clause-comes
returns-in-Err-clause-comes g c =
    subst (λ (e : Ending). FirstOf (FileLibrary (g.F.Folder.files c.args.folder.now) c.args.name.now) (Err e)) (sym c.in-Err.ensures.starved) tt

pub returns-in-Err-clause-unloaded : goal.returns-in-Err-clause-unloaded
returns-in-Err-clause-unloaded g c = subst IsUnloaded (sym c.in-Err.ensures.starved) tt

pub returns-clause-comes : goal.returns-clause-comes
returns-clause-comes g c =
    first_of (FileLibrary (g.F.Folder.files c.args.folder.now) c.args.name.now) c.file_library-loaded.result c.first_ready.result c.file_library-loaded.ensures.comes c.first_ready.ensures.ready c.first_ready.ensures.refused

pub returns-clause-unloaded : goal.returns-clause-unloaded
returns-clause-unloaded g c = first_unloaded c.file_library-loaded.result c.first_ready.result c.file_library-loaded.ensures.unloaded c.first_ready.ensures.refused

pub returns-clause-counts : goal.returns-clause-counts
returns-clause-counts g c =
    subst (λ (failed : Bool). Counts (g.F.Folder.count c.args.folder.now) (g.F.Folder.count c.file_library-loaded.new.folder) failed)
    (first_failed c.file_library-loaded.result c.first_ready.result c.first_ready.ensures.ready c.first_ready.ensures.refused) c.file_library-loaded.ensures.counts
