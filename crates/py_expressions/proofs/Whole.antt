-- Tests are read as the grammar says.
use Rattle.std.proofs.Common.{suc, length, refl, ◌∙◌, arith}
use Rattle.py_expressions.specs.Follow.{behind_test, behind_tests}
use Rattle.py_expressions.specs.Reading.{all_tests, one_test, tests}
use Rattle.py_expressions.specs.Grammar.{members_text, members_tree, test_text, test_tree}
use Rattle.py_expressions.specs.Laws.{input, Sound, Complete, Fails}
use Rattle.py_expressions.proofs.Forward.{expr_test}
use Rattle.py_expressions.proofs.Complete.{members_complete, test_complete}
use Rattle.py_expressions.proofs.Backward.{expr_sound, tests_sound}
use Rattle.py_expressions.proofs.Faults.{expr_fails, tests_fails}

pub all_tests_sound : Sound members_text members_tree all_tests
unfolding all_tests
all_tests_sound i x j e = tests_sound (suc (length i.ahead)) i x j e

pub all_tests_complete : Complete members_text members_tree behind_tests all_tests
unfolding all_tests tests
all_tests_complete m rest front h = rw (members_complete m (length (members_text m rest)) rest front (omega arith) h) refl

pub all_tests_fails : Fails all_tests
unfolding all_tests
all_tests_fails i d e = tests_fails (suc (length i.ahead)) i d e

pub one_test_sound : Sound test_text test_tree one_test
unfolding one_test
one_test_sound i x j e = (expr_sound (suc (length i.ahead))).test i x j e

pub one_test_complete : Complete test_text test_tree behind_test one_test
unfolding one_test
one_test_complete t rest front h = expr_test (length (test_text t rest)) (input (test_text t rest) front) ∙ test_complete t (length (test_text t rest)) rest front (omega arith) h

pub one_test_fails : Fails one_test
unfolding one_test
one_test_fails i d e = (expr_fails (suc (length i.ahead))).test i d e
