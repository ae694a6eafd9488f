use Rattle.file_commands.proofs.CheckedAs.{no_source}
use Rattle.file_commands.proofs.checking_as.source_text.Goals as goal

pub returns-in_default-clause-refused : goal.returns-in_default-clause-refused
returns-in_default-clause-refused g c level file told =
    no_source level (g.F.Folder.files c.args.folder.now) c.args.name.now file told c.in-Err.ending c.in_default.not-Unread c.in-Err.ensures.refused
