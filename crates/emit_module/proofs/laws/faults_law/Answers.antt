use Rattle.emit_module.proofs.Judging.{none_first, one_first}
use Rattle.emit_module.proofs.laws.faults_law.Goals as goal

pub returns-clause-one : goal.returns-clause-one
returns-clause-one c source f g a b = one_first f g a b

pub returns-clause-not_both : goal.returns-clause-not_both
returns-clause-not_both c source fault within first = none_first within first
