use Rattle.std.proofs.Common.{◌∙◌}
use Rattle.frozen_files.proofs.Given.{not_there, too_long_there, unaccepted_there, source_there}
use Rattle.frozen_files.proofs.source.source_module.Goals as goal

pub returns-in-Err-Absent-clause-refused : goal.returns-in-Err-Absent-clause-refused
returns-in-Err-Absent-clause-refused g c =
    not_there (g.F.Folder.files c.args.folder.now) c.args.entry.now c.in_ok-path.path c.name_of.result.now c.in-Err-Absent.field-0 (c.in_ok-path.ensures ∙ c.bytes.ensures) c.name_of.ensures c.in-Err-Absent.field-0-is c.in-Err-Absent.ensures.content

pub returns-in-Err-TooLong-clause-refused : goal.returns-in-Err-TooLong-clause-refused
returns-in-Err-TooLong-clause-refused g c =
    too_long_there (g.F.Folder.files c.args.folder.now) c.args.entry.now c.in_ok-path.path c.name_of.result.now c.in-Err-TooLong.field-0 c.too_long-fault.result (c.in_ok-path.ensures ∙ c.bytes.ensures) c.name_of.ensures c.in-Err-TooLong.field-0-is
    c.too_long-fault.ensures c.in-Err-TooLong.ensures.content

pub returns-in-Ok-compiled-clause-source : goal.returns-in-Ok-compiled-clause-source
returns-in-Ok-compiled-clause-source g c =
    source_there (g.F.Folder.files c.args.folder.now) c.args.entry.now c.name_of.result.now c.in_ok-name.name c.in-Ok.text.items c.deref.result.now c.in-Ok-compiled.held c.name_of.ensures (c.in_ok-name.ensures ∙ c.bytes-2.ensures)
    c.deref.ensures.value c.in-Ok.ensures.content c.in-Ok-compiled.ensures
