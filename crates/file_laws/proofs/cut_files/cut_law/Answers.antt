use Rattle.file_laws.proofs.CutFiles.{cut_header, cut_truncated}
use Rattle.file_laws.proofs.cut_files.cut_law.Goals as goal

pub returns-clause-header : goal.returns-clause-header
returns-clause-header c = cut_header

pub returns-clause-truncated : goal.returns-clause-truncated
returns-clause-truncated c = cut_truncated
