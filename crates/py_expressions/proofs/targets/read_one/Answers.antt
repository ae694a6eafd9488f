use Rattle.py_expressions.specs.Follow.{behind_primary}
use Rattle.py_expressions.specs.Targets as spec
use Rattle.py_expressions.specs.Targets.{one_text, one_tree}
use Rattle.py_expressions.proofs.Aims.{one_target_sound, one_target_complete, one_target_fails}
use Rattle.py_expressions.proofs.Clauses.{found, only, names_front}
use Rattle.py_expressions.proofs.targets.read_one.Goals as goal

pub returns-clause-found : goal.returns-clause-found
returns-clause-found c = found one_text one_tree spec.one_target one_target_sound c.args.tokens.now c.one_target.result c.one_target.new.tokens c.one_target.ensures

pub returns-clause-only : goal.returns-clause-only
returns-clause-only c = only one_text one_tree behind_primary spec.one_target one_target_complete c.args.tokens.now c.one_target.result c.one_target.new.tokens c.one_target.ensures

pub returns-clause-fault : goal.returns-clause-fault
returns-clause-fault c = names_front spec.one_target one_target_fails c.args.tokens.now c.one_target.result c.one_target.new.tokens c.one_target.ensures
