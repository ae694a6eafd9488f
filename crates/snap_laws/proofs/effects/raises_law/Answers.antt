use Rattle.snap_laws.proofs.Acting.{fault_raised, value_raised, raised_again, report_as}
use Rattle.snap_laws.proofs.effects.raises_law.Goals as goal

pub returns-clause-fault : goal.returns-clause-fault
returns-clause-fault c r place w u fault is = fault_raised r place w u is fault

pub returns-clause-value : goal.returns-clause-value
returns-clause-value c r place w u v is = value_raised r place w u is v

pub returns-clause-again : goal.returns-clause-again
returns-clause-again c r place w u handled is = raised_again r place w u is handled

pub returns-clause-report : goal.returns-clause-report
returns-clause-report c r w u end is = report_as r w.heap u.heap is.heap end
