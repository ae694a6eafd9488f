use Rattle.tool_laws.proofs.Ended.{go_ends, run_ends_so}
use Rattle.tool_laws.proofs.statuses.run_completeness_law.Goals as goal

pub returns : goal.returns
returns c = record {
  go = λ level files name room steps printed ports states ready program t status.
      go_ends room steps files name printed ports states level (c.go_means_law.ensures level room steps name) (c.library_law.ensures.source level files name) ready program t status;
  run = λ opened below main files name room steps printed ports states ready program t status is.
      run_ends_so room steps files name printed ports states below main (c.run_means_law.ensures.run below main room steps name)
      (c.library_law.ensures.file opened below main files name is) ready program t status;
}
