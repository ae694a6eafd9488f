use Rattle.bc_resolved.proofs.Spelled.{file_known, module_texts}
use Rattle.bc_resolved.proofs.verified.file_law.Goals as goal

pub returns-clause-texts : goal.returns-clause-texts
returns-clause-texts c m h = module_texts m h

pub returns-clause-known : goal.returns-clause-known
returns-clause-known c m tree r v = file_known m tree r v
