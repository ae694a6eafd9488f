use Rattle.bc_rows.proofs.Runs.{as_many, row_file, row_runs}
use Rattle.bc_rows.proofs.law.rows_law.Goals as goal

pub returns-clause-runs : goal.returns-clause-runs
returns-clause-runs c = row_runs

pub returns-clause-file : goal.returns-clause-file
returns-clause-file c = row_file

pub returns-clause-as_many : goal.returns-clause-as_many
returns-clause-as_many c = as_many
