use Rattle.file_commands.proofs.Checked.{judged_from}
use Rattle.file_commands.proofs.checking.judged.Goals as goal

pub returns-in-Ok : goal.returns-in-Ok
returns-in-Ok c = record { read = c.in-Ok.verified; file = c.in-Ok.ensures.0; verified = c.in-Ok.ensures.1; count_is = c.codes.ensures }

pub returns-in-Err : goal.returns-in-Err
returns-in-Err c = judged_from c.args.bytes.now c.in-Err.ending c.in-Err.ensures
