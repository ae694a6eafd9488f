use Rattle.bc_scheme.specs.bc_machine.Machine.{start}
use Rattle.sim_stmt.proofs.Rooms.{step_room, steps_room, start_room}
use Rattle.sim_stmt.proofs.expr_rooms.rooms_law.Goals as goal

pub returns-clause-steps : goal.returns-clause-steps
returns-clause-steps c library s r = step_room library s r

pub returns-clause-runs : goal.returns-clause-runs
returns-clause-runs c library name w n = steps_room library n (start library name w) (start_room library name w)
