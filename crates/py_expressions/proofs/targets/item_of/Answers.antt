use Rattle.std.proofs.Common.{◌∙◌, ap, rules, arith}
use Rattle.py_tree.specs.declared.expr.Expr.{the_lemmas}
use Rattle.py_expressions.specs.Targets.{item_of}
use Rattle.py_expressions.proofs.Aims.{item_index}
use Rattle.py_expressions.proofs.targets.item_of.Goals as goal

pub returns-in-Index : goal.returns-in-Index
returns-in-Index c = let e = ap item_of c.in-Index.is ∙ item_index c.in-Index.object c.in-Index.index in cc

pub returns-in_default : goal.returns-in_default
unfolding item_of
returns-in_default c = first_of (search (rules, the_lemmas), grind (arith, the_lemmas))
