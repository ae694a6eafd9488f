use Rattle.meant_files.proofs.One.{one_program}
use Rattle.meant_files.proofs.laws.program_law.Goals as goal

pub returns : goal.returns
returns c = record { one = λ files base path level first second h k. one_program c.accepted_law.ensures.one files base level path first second h k }
