use Rattle.file_commands.proofs.Crossings.{one_crossing}
use Rattle.file_commands.proofs.crossing.one_ending_law.Goals as goal

pub returns : goal.returns
returns c = one_crossing c.compile_law.ensures.not_both c.compile_law.ensures.one_fault
