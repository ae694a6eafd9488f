use Rattle.file_laws.proofs.CutFiles.{with_suffix, too_long}
use Rattle.file_laws.proofs.cut_files.suffix_law.Goals as goal

pub returns-clause-trailing : goal.returns-clause-trailing
returns-clause-trailing c = with_suffix

pub returns-clause-too_big : goal.returns-clause-too_big
returns-clause-too_big c = too_long
