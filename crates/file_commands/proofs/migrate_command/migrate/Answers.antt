use Rattle.std.proofs.Common.{sym, subst}
use Rattle.command_files.specs.mpy_endings.declared.ending.Ending.{Ending}
use Rattle.file_commands.specs.Migrate.{Migrates}
use Rattle.file_commands.proofs.Migrating.{unmigrated}
use Rattle.file_commands.proofs.migrate_command.migrate.Goals as goal

pub returns-clause-went : goal.returns-clause-went
returns-clause-went g c =
    let old = g.F.Folder.files c.args.folder.now in
    let new = g.F.Folder.files c.read_file.new.folder in
    subst (λ (e : Ending). Migrates c.args.name.now c.args.written.now old new e) (sym c.refused.ensures)
    (unmigrated c.args.name.now c.args.written.now c.in-Ok.bytes.items c.deref.result.now old new c.in-Ok.ensures.read c.in-Ok.ensures.short c.deref.ensures.value
    c.in-Err-migrate_image.refusal c.in-Ok.ensures.files c.in-Err-migrate_image.ensures.opening c.in-Err-migrate_image.ensures.freezing)
