use Rattle.std.proofs.Common.{add-one, rules, arith}
use Rattle.std.proofs.lemmas.Grind.{common_steps}
use Rattle.py_expressions.specs.Reading.{one_test}
use Rattle.py_expressions.proofs.expressions.one_test.Goals as goal

pub returns : goal.returns
unfolding one_test
returns c = first_of (search (rules, add-one), grind (arith, common_steps, add-one))
