use Rattle.std.proofs.Common.{Option, subst}
use Rattle.mpy_io.specs.Files.{FileOf}
use Rattle.command_files.specs.Folder.{IsNotRead}
use Rattle.file_commands.proofs.CheckedAs.{held, is_there, no_file}
use Rattle.file_commands.proofs.checking_as.check_as.Goals as goal

pub returns-in-Err-clause-went : goal.returns-in-Err-clause-went
returns-in-Err-clause-went g c = c.in-Err.ensures.refused c.args.level c.args.file.now (g.S.Sink.told c.args.out.now)

pub returns-in-Err-read_file-clause-went : goal.returns-in-Err-read_file-clause-went
returns-in-Err-read_file-clause-went g c =
    let files = g.F.Folder.files c.args.folder.now in
    let there = is_there files c.args.source.now c.in-Ok.text c.in-Ok.ensures.found in
    let none = subst (λ (f : Option FileOf). IsNotRead f c.args.file.now c.in-Err-read_file.ending) c.in-Ok.ensures.files c.in-Err-read_file.ensures.refused in
    no_file c.args.level files c.args.source.now c.args.file.now (g.S.Sink.told c.args.out.now) there c.in-Err-read_file.ending none

pub returns-in-Ok-put_translation-clause-went : goal.returns-in-Ok-put_translation-clause-went
returns-in-Ok-put_translation-clause-went g c =
    let files = g.F.Folder.files c.args.folder.now in
    let has = held files (g.F.Folder.files c.source_text.new.folder) c.args.file.now c.in-Ok-read_file.bytes.items c.deref.result.now c.in-Ok.ensures.files c.deref.ensures.value c.in-Ok-read_file.ensures.read in
    (c.in-Ok-translation.codes, c.in-Ok-translation.ensures.same files c.args.source.now c.args.file.now c.in-Ok.ensures.found has, c.in-Ok-put_translation.ensures.0)

pub returns-in-Ok-translation-clause-went : goal.returns-in-Ok-translation-clause-went
returns-in-Ok-translation-clause-went g c =
    let files = g.F.Folder.files c.args.folder.now in
    let has = held files (g.F.Folder.files c.source_text.new.folder) c.args.file.now c.in-Ok-read_file.bytes.items c.deref.result.now c.in-Ok.ensures.files c.deref.ensures.value c.in-Ok-read_file.ensures.read in
    (c.in-Ok-translation.codes, c.in-Ok-translation.ensures.same files c.args.source.now c.args.file.now c.in-Ok.ensures.found has, c.in-Err-put_translation.ensures.0)

pub returns-clause-went : goal.returns-clause-went
returns-clause-went g c =
    let files = g.F.Folder.files c.args.folder.now in
    let has = held files (g.F.Folder.files c.source_text.new.folder) c.args.file.now c.in-Ok-read_file.bytes.items c.deref.result.now c.in-Ok.ensures.files c.deref.ensures.value c.in-Ok-read_file.ensures.read in
    c.in-Err-translation.ensures.refused files c.args.source.now c.args.file.now (g.S.Sink.told c.args.out.now) c.in-Ok.ensures.found has
