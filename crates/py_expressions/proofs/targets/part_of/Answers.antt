use Rattle.std.proofs.Common.{◌∙◌, ap, rules, arith}
use Rattle.py_tree.specs.declared.expr.Expr.{the_lemmas}
use Rattle.py_expressions.specs.Targets.{part_of}
use Rattle.py_expressions.proofs.Aims.{part_attribute, part_index}
use Rattle.py_expressions.proofs.targets.part_of.Goals as goal

pub returns-in-Attr : goal.returns-in-Attr
returns-in-Attr c = let e = ap part_of c.in-Attr.is ∙ part_attribute c.in-Attr.object c.in-Attr.name in cc

pub returns-in-Index : goal.returns-in-Index
returns-in-Index c = let e = ap part_of c.in-Index.is ∙ part_index c.in-Index.object c.in-Index.index in cc

pub returns-in_default : goal.returns-in_default
unfolding part_of
returns-in_default c = first_of (search (rules, the_lemmas), grind (arith, the_lemmas))
