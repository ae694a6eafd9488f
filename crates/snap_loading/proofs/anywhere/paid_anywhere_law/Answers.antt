use Rattle.snap_loading.proofs.Wherever.{paid_there, machine_paid}
use Rattle.snap_loading.proofs.anywhere.paid_anywhere_law.Goals as goal

pub returns-clause-states : goal.returns-clause-states
returns-clause-states c library paid frame frames w v same = paid_there library frame frames w v same paid

pub returns-clause-machines : goal.returns-clause-machines
returns-clause-machines c = machine_paid
