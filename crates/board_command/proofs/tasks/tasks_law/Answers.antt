use Rattle.board_command.proofs.TaskMeaning.{ran_as_meant}
use Rattle.board_command.proofs.tasks.tasks_law.Goals as goal

pub returns : goal.returns
returns c = ran_as_meant c.runs_law.ensures.means
