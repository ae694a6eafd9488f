use Rattle.bc_machine.proofs.Runs.{runs}
use Rattle.bc_machine.proofs.running.runs_law.Goals as goal

pub returns : goal.returns
returns c library m n s = runs library m n s
