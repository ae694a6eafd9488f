use Rattle.py_expressions.specs.Follow.{behind_test}
use Rattle.py_expressions.specs.Reading as spec
use Rattle.py_expressions.specs.Grammar.{test_text, test_tree}
use Rattle.py_expressions.proofs.Whole.{one_test_sound, one_test_complete, one_test_fails}
use Rattle.py_expressions.proofs.Clauses.{found, only, names_front}
use Rattle.py_expressions.proofs.expressions.read_test.Goals as goal

pub returns-clause-found : goal.returns-clause-found
returns-clause-found c = found test_text test_tree spec.one_test one_test_sound c.args.tokens.now c.one_test.result c.one_test.new.tokens c.one_test.ensures

pub returns-clause-only : goal.returns-clause-only
returns-clause-only c = only test_text test_tree behind_test spec.one_test one_test_complete c.args.tokens.now c.one_test.result c.one_test.new.tokens c.one_test.ensures

pub returns-clause-fault : goal.returns-clause-fault
returns-clause-fault c = names_front spec.one_test one_test_fails c.args.tokens.now c.one_test.result c.one_test.new.tokens c.one_test.ensures
