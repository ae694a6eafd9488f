use Rattle.snap_laws.proofs.Meeting.{least_anywhere}
use Rattle.snap_laws.proofs.Rooms.{is_least}
use Rattle.snap_laws.proofs.flow.rooms_law.Goals as goal

pub returns-clause-walk : goal.returns-clause-walk
returns-clause-walk c code t n_state n_exc reached = is_least code n_state n_exc t reached

pub returns-clause-least : goal.returns-clause-least
returns-clause-least c code a n_state n_exc holds least = least_anywhere code a n_state n_exc holds least
