use Rattle.board_tasks.proofs.Boards.{board_so}
use Rattle.board_tasks.proofs.laws.board_law.Goals as goal

pub returns : goal.returns
returns c = board_so c.ended_law.ensures.states c.runs_law.ensures
