use Rattle.meant_commands.proofs.ResumeMeaning.{parts_mean}
use Rattle.meant_commands.proofs.meant.parts_mean_law.Goals as goal

pub returns : goal.returns
returns c = parts_mean c.meant_law.ensures c.rest_law.ensures.rest c.rest_law.ensures.accepted c.leaves_law.ensures.leaves
