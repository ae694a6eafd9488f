use Rattle.library_runs.proofs.Ended.{goes_so, none_strayed, runs_so, stands_so}
use Rattle.library_runs.proofs.laws.accounted_law.Goals as goal

pub returns : goal.returns
returns c = record { none = none_strayed; runs = runs_so; on = goes_so; stands = stands_so }
