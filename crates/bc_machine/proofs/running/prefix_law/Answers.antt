use Rattle.bc_machine.proofs.Laws.{step_prints, printed}
use Rattle.bc_machine.proofs.running.prefix_law.Goals as goal

pub returns-clause-steps : goal.returns-clause-steps
returns-clause-steps c library s = step_prints library s

pub returns-clause-runs : goal.returns-clause-runs
returns-clause-runs c library name cells bytes ports n m le = printed library name cells bytes ports n m le
