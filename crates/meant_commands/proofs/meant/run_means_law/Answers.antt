use Rattle.run_commands.specs.Ready.{GoLibrary, RunLibrary}
use Rattle.meant_commands.proofs.Meaning.{run_means, run_to_means}
use Rattle.meant_commands.proofs.meant.run_means_law.Goals as goal

pub returns-clause-run : goal.returns-clause-run
returns-clause-run c below main = run_means c.meant_law.ensures (RunLibrary below main)

pub returns-clause-saving : goal.returns-clause-saving
returns-clause-saving c below main snap = run_to_means c.meant_law.ensures snap (RunLibrary below main)

pub returns-clause-source : goal.returns-clause-source
returns-clause-source c level = run_means c.meant_law.ensures (GoLibrary level)
