use Rattle.bc_machine.proofs.OutputRuns.{runs_behind}
use Rattle.bc_machine.proofs.Steps.{start_behind, steps_behind}
use Rattle.bc_machine.proofs.outputs.output_law.Goals as goal

pub returns-clause-starts : goal.returns-clause-starts
returns-clause-starts c = λ library name w front. start_behind front library name w

pub returns-clause-steps : goal.returns-clause-steps
returns-clause-steps c = λ library n s front. steps_behind front library n s

pub returns-clause-runs : goal.returns-clause-runs
returns-clause-runs c = λ library name cells bytes ports n front. runs_behind library name cells bytes ports front n
