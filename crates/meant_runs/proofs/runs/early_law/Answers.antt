use Rattle.meant_runs.proofs.Early.{same_start, early}
use Rattle.meant_runs.proofs.runs.early_law.Goals as goal

pub returns-clause-start : goal.returns-clause-start
returns-clause-start c program library name cells bytes ports = same_start program library name cells bytes ports

pub returns-clause-early : goal.returns-clause-early
returns-clause-early c program library name cells bytes ports n o =
    early program library name cells bytes ports (c.ended_law.ensures.runs library name cells bytes ports) (c.prefix_law.ensures.runs library name cells bytes ports) n o
