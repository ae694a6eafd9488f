use Rattle.bc_machine.proofs.Laws.{step_follows, step_fits, run_follows, run_fits}
use Rattle.bc_machine.proofs.running.sound_law.Goals as goal

pub returns-clause-steps : goal.returns-clause-steps
returns-clause-steps c library s d f = step_follows library s d f

pub returns-clause-frames : goal.returns-clause-frames
returns-clause-frames c library s f = step_fits library s f

pub returns-clause-runs : goal.returns-clause-runs
returns-clause-runs c library name cells bytes ports n m le = run_follows library name cells bytes ports n m le

pub returns-clause-run_frames : goal.returns-clause-run_frames
returns-clause-run_frames c library name cells bytes ports n = run_fits library name cells bytes ports n
