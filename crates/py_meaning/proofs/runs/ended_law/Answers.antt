use Rattle.py_meaning.proofs.Laws.{ended, late}
use Rattle.py_meaning.proofs.runs.ended_law.Goals as goal

pub returns-clause-runs : goal.returns-clause-runs
returns-clause-runs c program cells bytes ports t s le e = ended program cells bytes ports t s le e

pub returns-clause-evaluations : goal.returns-clause-evaluations
returns-clause-evaluations c program n m le = late program n m le
