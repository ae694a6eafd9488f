use Rattle.run_commands.proofs.Leaving.{saves_run}
use Rattle.run_commands.proofs.Naming.{files_named}
use Rattle.run_commands.proofs.suspended.leaves_law.Goals as goal

pub returns : goal.returns
returns c = record {
  names = files_named;
  leaves = λ below main saved room steps name old new ports_old ports_new status few_cells few_bytes ended.
      saves_run c.accounted_law.ensures.stands c.accounted_law.ensures.runs below main room few_cells few_bytes steps name old new ports_old ports_new saved status ended;
}
