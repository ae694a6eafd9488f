use Rattle.py_source.proofs.Always.{parsed, judged, read_from}
use Rattle.py_source.proofs.source.always_law.Goals as goal

pub returns-clause-tree : goal.returns-clause-tree
returns-clause-tree c = parsed

pub returns-clause-names : goal.returns-clause-names
returns-clause-names c = judged

pub returns-clause-source : goal.returns-clause-source
returns-clause-source c = read_from
