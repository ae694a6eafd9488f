use Rattle.py_expressions.specs.Follow.{behind_primary}
use Rattle.py_expressions.specs.Targets as spec
use Rattle.py_expressions.specs.Targets.{gone_text, gone_tree}
use Rattle.py_expressions.proofs.Aims.{one_gone_sound, one_gone_complete, one_gone_fails}
use Rattle.py_expressions.proofs.Clauses.{found, only, names_front}
use Rattle.py_expressions.proofs.targets.read_gone.Goals as goal

pub returns-clause-found : goal.returns-clause-found
returns-clause-found c = found gone_text gone_tree spec.one_gone one_gone_sound c.args.tokens.now c.one_gone.result c.one_gone.new.tokens c.one_gone.ensures

pub returns-clause-only : goal.returns-clause-only
returns-clause-only c = only gone_text gone_tree behind_primary spec.one_gone one_gone_complete c.args.tokens.now c.one_gone.result c.one_gone.new.tokens c.one_gone.ensures

pub returns-clause-fault : goal.returns-clause-fault
returns-clause-fault c = names_front spec.one_gone one_gone_fails c.args.tokens.now c.one_gone.result c.one_gone.new.tokens c.one_gone.ensures
