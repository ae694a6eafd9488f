use Rattle.command_files.specs.source_files.Sources.{stored}
use Rattle.command_files.proofs.Long.{long_source}
use Rattle.file_commands.proofs.Crossed.{crossed_front, crossed_done}
use Rattle.file_commands.proofs.crossing.cross.Goals as goal

pub returns-in-Err-TooLong-clause-went : goal.returns-in-Err-TooLong-clause-went
returns-in-Err-TooLong-clause-went g c =
    long_source c.args.level (g.F.Folder.files c.args.folder.now) (g.F.Folder.files c.read.new.self) c.args.name.now (stored c.args.source_name.now) c.in-Err-TooLong.field-0 c.too_long.result
    c.in-Err-TooLong.field-0-is c.too_long.ensures c.in-Err-TooLong.ensures.content c.in-Err-TooLong.ensures.same

pub returns-in-Ok-compiled-clause-went : goal.returns-in-Ok-compiled-clause-went
returns-in-Ok-compiled-clause-went g c =
    crossed_front c.args.level (g.F.Folder.files c.args.folder.now) (g.F.Folder.files c.read.new.self) (g.F.Folder.files c.write.new.self) c.args.name.now (stored c.args.source_name.now) c.args.written.now
    c.in-Ok.source.items c.deref.result.now c.in-Ok-compiled.bytes.items c.deref-in-Ok-compiled.result.now c.deref.ensures.value c.deref-in-Ok-compiled.ensures.value c.in-Ok.ensures.same c.in-Ok.ensures.content c.in-Ok-compiled.ensures c.in-Err.ensures.err

pub returns-in-Ok-write-clause-went : goal.returns-in-Ok-write-clause-went
returns-in-Ok-write-clause-went g c =
    crossed_done c.args.level (g.F.Folder.files c.args.folder.now) (g.F.Folder.files c.read.new.self) (g.F.Folder.files c.write.new.self) c.args.name.now (stored c.args.source_name.now) c.args.written.now
    c.in-Ok.source.items c.deref.result.now c.in-Ok-compiled.bytes.items c.deref-in-Ok-compiled.result.now c.deref.ensures.value c.deref-in-Ok-compiled.ensures.value c.in-Ok.ensures.same c.in-Ok.ensures.content c.in-Ok-compiled.ensures c.in-Ok-write.ensures.ok
