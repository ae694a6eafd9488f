use Rattle.command_files.proofs.Long.{not_read}
use Rattle.command_files.proofs.opening.opened.Goals as goal

pub returns-in-Err-clause-refused : goal.returns-in-Err-clause-refused
returns-in-Err-clause-refused g c = not_read (g.F.Folder.files c.args.folder.now) c.args.name.now c.in-Err.ending c.in-Err.ensures.refused
