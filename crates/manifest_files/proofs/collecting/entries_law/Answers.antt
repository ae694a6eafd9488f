use Rattle.manifest_files.proofs.Said.{one_answer, any_answer}
use Rattle.manifest_files.proofs.collecting.entries_law.Goals as goal

pub returns-clause-one : goal.returns-clause-one
returns-clause-one c = one_answer

pub returns-clause-always : goal.returns-clause-always
returns-clause-always c = any_answer
