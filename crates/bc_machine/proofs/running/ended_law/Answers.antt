use Rattle.bc_machine.proofs.Laws.{stays, ended}
use Rattle.bc_machine.proofs.running.ended_law.Goals as goal

pub returns-clause-states : goal.returns-clause-states
returns-clause-states c library n end w = stays library n end w

pub returns-clause-runs : goal.returns-clause-runs
returns-clause-runs c library name cells bytes ports n m le e = ended library name cells bytes ports n m le e
