use Rattle.mpy_base.proofs.Rooms.{room_is}
use Rattle.mpy_base.proofs.room.room_law.Goals as goal

pub returns : goal.returns
returns c = room_is
