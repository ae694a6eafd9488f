use Rattle.bc_prelude.proofs.Counts.{few_lines}
use Rattle.bc_prelude.proofs.Tables.{lines_given, lines_readable}
use Rattle.bc_prelude.proofs.lines.lines_law.Goals as goal

pub returns-clause-lines : goal.returns-clause-lines
returns-clause-lines c = lines_given

pub returns-clause-readable : goal.returns-clause-readable
returns-clause-readable c = lines_readable

pub returns-clause-few : goal.returns-clause-few
returns-clause-few c = few_lines
