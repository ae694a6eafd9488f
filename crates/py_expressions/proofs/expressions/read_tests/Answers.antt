use Rattle.py_expressions.specs.Follow.{behind_tests}
use Rattle.py_expressions.specs.Reading as spec
use Rattle.py_expressions.specs.Grammar.{members_text, members_tree}
use Rattle.py_expressions.proofs.Whole.{all_tests_sound, all_tests_complete, all_tests_fails}
use Rattle.py_expressions.proofs.Clauses.{found, only, names_front}
use Rattle.py_expressions.proofs.expressions.read_tests.Goals as goal

pub returns-clause-found : goal.returns-clause-found
returns-clause-found c = found members_text members_tree spec.all_tests all_tests_sound c.args.tokens.now c.all_tests.result c.all_tests.new.tokens c.all_tests.ensures

pub returns-clause-only : goal.returns-clause-only
returns-clause-only c = only members_text members_tree behind_tests spec.all_tests all_tests_complete c.args.tokens.now c.all_tests.result c.all_tests.new.tokens c.all_tests.ensures

pub returns-clause-fault : goal.returns-clause-fault
returns-clause-fault c = names_front spec.all_tests all_tests_fails c.args.tokens.now c.all_tests.result c.all_tests.new.tokens c.all_tests.ensures
