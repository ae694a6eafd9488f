use Rattle.std.proofs.Common.{add-one, rules, arith}
use Rattle.std.proofs.lemmas.Grind.{common_steps}
use Rattle.py_expressions.specs.Reading.{all_tests}
use Rattle.py_expressions.proofs.expressions.all_tests.Goals as goal

pub returns : goal.returns
unfolding all_tests
returns c = first_of (search (rules, add-one), grind (arith, common_steps, add-one))
