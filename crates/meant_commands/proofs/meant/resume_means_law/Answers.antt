use Rattle.meant_commands.proofs.ResumeMeaning.{resume_means}
use Rattle.meant_commands.proofs.meant.resume_means_law.Goals as goal

pub returns : goal.returns
returns c below steps name snap words save old new ports_old ports_new status ended =
    resume_means c.meant_law.ensures c.rest_law.ensures.rest c.rest_law.ensures.accepted below steps name snap words save old new ports_old ports_new status ended
