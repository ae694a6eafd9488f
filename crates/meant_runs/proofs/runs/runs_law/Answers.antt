use Rattle.meant_runs.proofs.Means.{means}
use Rattle.meant_runs.proofs.runs.runs_law.Goals as goal

pub returns-clause-behaves : goal.returns-clause-behaves
returns-clause-behaves c shelf p program is units cells bytes ports = c.behaves_law.ensures program p.library cells bytes ports (c.links_law.ensures shelf p program is units)

pub returns-clause-means : goal.returns-clause-means
returns-clause-means c shelf p program is units cells bytes ports n =
    let behaves = c.behaves_law.ensures program p.library cells bytes ports (c.links_law.ensures shelf p program is units) in
    means program p.library cells bytes ports behaves (c.ended_law.ensures.runs program cells bytes ports) (c.prefix_law.ensures.runs program cells bytes ports)
    (c.early_law.ensures.early program p.library program.main_name cells bytes ports) n
