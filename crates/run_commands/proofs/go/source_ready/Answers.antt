use Rattle.std.proofs.Common.{Bool, Err, refl, sym, subst}
use Rattle.mpy_io.specs.Count.{Counts}
use Rattle.command_files.specs.mpy_endings.declared.ending.Ending.{Ending}
use Rattle.command_files.specs.mpy_endings.Ending.{is_folder_fault}
use Rattle.run_commands.specs.Go.{SourceLibrary}
use Rattle.run_commands.specs.Ready.{GoLibrary}
use Rattle.run_commands.specs.Run.{IsUnloaded}
use Rattle.run_commands.proofs.Starting.{first_of, first_failed, first_unloaded}
use Rattle.run_commands.proofs.go.source_ready.Goals as goal

pub returns-in-Err-clause-comes : goal.returns-in-Err-clause-comes
returns-in-Err-clause-comes g c =
    subst (λ (e : Ending). GoLibrary c.args.level (g.F.Folder.files c.args.folder.now) c.args.name.now (Err e)) (sym c.in-Err.ensures.starved) tt

pub returns-in-Err-clause-unloaded : goal.returns-in-Err-clause-unloaded
returns-in-Err-clause-unloaded g c = subst IsUnloaded (sym c.in-Err.ensures.starved) tt

pub returns-in-Err-clause-counts : goal.returns-in-Err-clause-counts
returns-in-Err-clause-counts g c =
    subst (λ (e : Ending). Counts (g.F.Folder.count c.args.folder.now) (g.F.Folder.count c.args.folder.now) (is_folder_fault e)) (sym c.in-Err.ensures.starved) refl

pub returns-clause-comes : goal.returns-clause-comes
returns-clause-comes g c =
    first_of (SourceLibrary c.args.level (g.F.Folder.files c.args.folder.now) c.args.name.now) c.source_library-loaded.result c.first_ready.result c.source_library-loaded.ensures.comes c.first_ready.ensures.ready c.first_ready.ensures.refused

pub returns-clause-unloaded : goal.returns-clause-unloaded
returns-clause-unloaded g c = first_unloaded c.source_library-loaded.result c.first_ready.result c.source_library-loaded.ensures.unloaded c.first_ready.ensures.refused

pub returns-clause-counts : goal.returns-clause-counts
returns-clause-counts g c =
    subst (λ (failed : Bool). Counts (g.F.Folder.count c.args.folder.now) (g.F.Folder.count c.source_library-loaded.new.folder) failed)
    (first_failed c.source_library-loaded.result c.first_ready.result c.first_ready.ensures.ready c.first_ready.ensures.refused) c.source_library-loaded.ensures.counts
