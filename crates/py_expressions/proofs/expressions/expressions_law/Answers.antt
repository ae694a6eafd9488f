use Rattle.py_expressions.specs.Follow.{behind_test, behind_tests}
use Rattle.py_expressions.specs.Grammar.{members_text, members_tree, test_text, test_tree}
use Rattle.py_expressions.specs.Reading.{all_tests, one_test}
use Rattle.py_expressions.proofs.Clauses.{one_reading}
use Rattle.py_expressions.proofs.Whole.{all_tests_complete, one_test_complete}
use Rattle.py_expressions.proofs.expressions.expressions_law.Goals as goal

pub returns-clause-tests : goal.returns-clause-tests
returns-clause-tests c = one_reading members_text members_tree behind_tests all_tests all_tests_complete

pub returns-clause-test : goal.returns-clause-test
returns-clause-test c = one_reading test_text test_tree behind_test one_test one_test_complete
