use Rattle.file_commands.proofs.Checked.{not_checked}
use Rattle.file_commands.proofs.checking.check.Goals as goal

pub returns-in-Err-clause-went : goal.returns-in-Err-clause-went
returns-in-Err-clause-went g c =
    not_checked (g.F.Folder.files c.args.folder.now) c.args.name.now c.in-Err.ending (g.S.Sink.told c.args.out.now) c.in-Err.ensures.refused
