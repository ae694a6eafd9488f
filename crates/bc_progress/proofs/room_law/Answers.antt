use Rattle.bc_progress.specs.Slots.{anything}
use Rattle.bc_progress.proofs.Whole.{stands_room, waits_room}
use Rattle.bc_progress.proofs.room_law.Goals as goal

pub returns-clause-stands : goal.returns-clause-stands
returns-clause-stands c plans library frame follows s = stands_room anything plans library follows frame s

pub returns-clause-waits : goal.returns-clause-waits
returns-clause-waits c plans library frame follows s = waits_room anything plans library follows frame s
