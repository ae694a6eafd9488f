use Rattle.std.proofs.Common.{map, string_bytes, sym, subst}
use Rattle.std.proofs.KnownBytes.{Keeps-refl}
use Rattle.mpy_io.specs.Count.{Counts}
use Rattle.meant_commands.specs.source_files.Sources.{stored}
use Rattle.mpy_endings.specs.declared.ending.Ending.{Ending}
use Rattle.mpy_endings.specs.Ending.{is_folder_fault, is_out_fault}
use Rattle.mpy_tool.proofs.Acting.{same_changes}
use Rattle.mpy_tool.proofs.Alone.{check_did, check_as_did, dump_did, cross_did, merge_did, migrate_did, cross_changed, merge_changed, migrate_changed}
use Rattle.mpy_tool.proofs.doing.ran_alone.Goals as goal

pub returns-in-Check-clause-went : goal.returns-in-Check-clause-went
returns-in-Check-clause-went g c = λ below.
    check_did c.args.order (map string_bytes c.args.words.now) below c.args.order.command (g.F.Folder.files c.args.folder.now) (g.F.Folder.files c.check.new.folder) (g.S.Sink.told c.args.out.now) (g.S.Sink.told c.check.new.out) c.of_two.result.place c.of_two.result.ending c.check.result c.word_at-name.result.now
    c.in-Check.is c.word_at-name.ensures c.of_two.ensures.ending c.of_two.ensures.place c.check.ensures.went

pub returns-in-Check-clause-files : goal.returns-in-Check-clause-files
returns-in-Check-clause-files g c =
    same_changes (map string_bytes c.args.words.now) c.args.order.save c.args.order.command (g.F.Folder.files c.args.folder.now) (g.F.Folder.files c.check.new.folder) c.check.ensures.files

pub returns-in-Check-clause-folder_counts : goal.returns-in-Check-clause-folder_counts
returns-in-Check-clause-folder_counts g c =
    subst (λ (x : Ending). Counts (g.F.Folder.count c.args.folder.now) (g.F.Folder.count c.check.new.folder) (is_folder_fault x)) (sym c.of_two.ensures.ending) c.check.ensures.folder_counts

pub returns-in-Check-clause-out_counts : goal.returns-in-Check-clause-out_counts
returns-in-Check-clause-out_counts g c =
    subst (λ (x : Ending). Counts (g.S.Sink.count c.args.out.now) (g.S.Sink.count c.check.new.out) (is_out_fault x)) (sym c.of_two.ensures.ending) c.check.ensures.out_counts

pub returns-in-CheckAs-clause-went : goal.returns-in-CheckAs-clause-went
returns-in-CheckAs-clause-went g c = λ below.
    check_as_did c.args.order (map string_bytes c.args.words.now) below c.args.order.command (g.F.Folder.files c.args.folder.now) (g.F.Folder.files c.check_as.new.folder) (g.S.Sink.told c.args.out.now) (g.S.Sink.told c.check_as.new.out) c.check_as.result.place c.check_as.result.ending c.word_at-name.result.now c.word_at-file.result.now
    c.in-CheckAs.is c.word_at-name.ensures c.word_at-file.ensures c.check_as.ensures.went

pub returns-in-CheckAs-clause-files : goal.returns-in-CheckAs-clause-files
returns-in-CheckAs-clause-files g c =
    same_changes (map string_bytes c.args.words.now) c.args.order.save c.args.order.command (g.F.Folder.files c.args.folder.now) (g.F.Folder.files c.check_as.new.folder) c.check_as.ensures.files

pub returns-in-Dump-clause-went : goal.returns-in-Dump-clause-went
returns-in-Dump-clause-went g c = λ below.
    dump_did c.args.order (map string_bytes c.args.words.now) below c.args.order.command (g.F.Folder.files c.args.folder.now) (g.F.Folder.files c.dump.new.folder) (g.S.Sink.told c.args.out.now) (g.S.Sink.told c.dump.new.out) c.of_two-in-Dump.result.place c.of_two-in-Dump.result.ending c.dump.result c.word_at-name.result.now
    c.in-Dump.is c.word_at-name.ensures c.of_two-in-Dump.ensures.ending c.of_two-in-Dump.ensures.place c.dump.ensures.went

pub returns-in-Dump-clause-files : goal.returns-in-Dump-clause-files
returns-in-Dump-clause-files g c =
    same_changes (map string_bytes c.args.words.now) c.args.order.save c.args.order.command (g.F.Folder.files c.args.folder.now) (g.F.Folder.files c.dump.new.folder) c.dump.ensures.files

pub returns-in-Dump-clause-folder_counts : goal.returns-in-Dump-clause-folder_counts
returns-in-Dump-clause-folder_counts g c =
    subst (λ (x : Ending). Counts (g.F.Folder.count c.args.folder.now) (g.F.Folder.count c.dump.new.folder) (is_folder_fault x)) (sym c.of_two-in-Dump.ensures.ending) c.dump.ensures.folder_counts

pub returns-in-Dump-clause-out_counts : goal.returns-in-Dump-clause-out_counts
returns-in-Dump-clause-out_counts g c =
    subst (λ (x : Ending). Counts (g.S.Sink.count c.args.out.now) (g.S.Sink.count c.dump.new.out) (is_out_fault x)) (sym c.of_two-in-Dump.ensures.ending) c.dump.ensures.out_counts

pub returns-in-Cross-clause-went : goal.returns-in-Cross-clause-went
returns-in-Cross-clause-went g c = λ below.
    cross_did c.args.order (map string_bytes c.args.words.now) below c.args.order.command (g.F.Folder.files c.args.folder.now) (g.F.Folder.files c.cross.new.folder) (g.S.Sink.told c.args.out.now) (g.S.Sink.told c.args.out.now) c.of_two-in-Cross.result.place c.of_two-in-Cross.result.ending c.cross.result c.word_at-name.result.now c.source_name-stored.result.now c.word_at-written.result.now
    c.in-Cross.is c.word_at-name.ensures c.source_name-stored.ensures c.word_at-written.ensures c.of_two-in-Cross.ensures.ending c.of_two-in-Cross.ensures.place c.cross.ensures.went (Keeps-refl (g.S.Sink.told c.args.out.now))

pub returns-in-Cross-clause-files : goal.returns-in-Cross-clause-files
returns-in-Cross-clause-files g c =
    cross_changed (map string_bytes c.args.words.now) c.args.order.save c.args.order.command (g.F.Folder.files c.args.folder.now) (g.F.Folder.files c.cross.new.folder) c.args.order.level c.word_at-name.result.now (stored c.source_name-stored.result.now) c.word_at-written.result.now c.cross.result c.in-Cross.is c.word_at-written.ensures c.cross.ensures.went

pub returns-in-Cross-clause-folder_counts : goal.returns-in-Cross-clause-folder_counts
returns-in-Cross-clause-folder_counts g c =
    subst (λ (x : Ending). Counts (g.F.Folder.count c.args.folder.now) (g.F.Folder.count c.cross.new.folder) (is_folder_fault x)) (sym c.of_two-in-Cross.ensures.ending) c.cross.ensures.folder_counts

pub returns-in-Merge-clause-went : goal.returns-in-Merge-clause-went
returns-in-Merge-clause-went g c = λ below.
    merge_did c.args.order (map string_bytes c.args.words.now) below c.args.order.command (g.F.Folder.files c.args.folder.now) (g.F.Folder.files c.merge_files.new.folder) (g.S.Sink.told c.args.out.now) (g.S.Sink.told c.args.out.now) c.merge_files.result.place c.merge_files.result.ending (map string_bytes c.file_names.result.now) c.word_at-name.result.now
    c.in-Merge.is c.file_names.ensures c.word_at-name.ensures c.merge_files.ensures.went (Keeps-refl (g.S.Sink.told c.args.out.now))

pub returns-in-Merge-clause-files : goal.returns-in-Merge-clause-files
returns-in-Merge-clause-files g c =
    merge_changed (map string_bytes c.args.words.now) c.args.order.save c.args.order.command (g.F.Folder.files c.args.folder.now) (g.F.Folder.files c.merge_files.new.folder) (map string_bytes c.file_names.result.now) c.word_at-name.result.now c.merge_files.result.place c.merge_files.result.ending c.in-Merge.is c.word_at-name.ensures c.merge_files.ensures.went

pub returns-in-Migrate-clause-went : goal.returns-in-Migrate-clause-went
returns-in-Migrate-clause-went g c = λ below.
    migrate_did c.args.order (map string_bytes c.args.words.now) below c.args.order.command (g.F.Folder.files c.args.folder.now) (g.F.Folder.files c.migrate.new.folder) (g.S.Sink.told c.args.out.now) (g.S.Sink.told c.args.out.now) c.of_two-in-Migrate.result.place c.of_two-in-Migrate.result.ending c.migrate.result c.word_at-name.result.now c.word_at.result.now
    c.in-Migrate.is c.word_at-name.ensures c.word_at.ensures c.of_two-in-Migrate.ensures.ending c.of_two-in-Migrate.ensures.place c.migrate.ensures.went (Keeps-refl (g.S.Sink.told c.args.out.now))

pub returns-in-Migrate-clause-files : goal.returns-in-Migrate-clause-files
returns-in-Migrate-clause-files g c =
    migrate_changed (map string_bytes c.args.words.now) c.args.order.save c.args.order.command (g.F.Folder.files c.args.folder.now) (g.F.Folder.files c.migrate.new.folder) c.word_at-name.result.now c.word_at.result.now c.migrate.result c.in-Migrate.is c.word_at.ensures c.migrate.ensures.went

pub returns-in-Migrate-clause-folder_counts : goal.returns-in-Migrate-clause-folder_counts
returns-in-Migrate-clause-folder_counts g c =
    subst (λ (x : Ending). Counts (g.F.Folder.count c.args.folder.now) (g.F.Folder.count c.migrate.new.folder) (is_folder_fault x)) (sym c.of_two-in-Migrate.ensures.ending) c.migrate.ensures.folder_counts
