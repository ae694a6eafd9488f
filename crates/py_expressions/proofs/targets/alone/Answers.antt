use Rattle.std.proofs.Common.{◌≡◌, ◌∙◌, true, false, Option, None, refl, sym, ap, rules, arith}
use Rattle.py_tree.specs.declared.expr.Expr.{the_lemmas}
use Rattle.py_tree.specs.declared.stmt.Target.{Target}
use Rattle.py_expressions.specs.Targets.{alone_of}
use Rattle.py_expressions.proofs.Aims.{alone_name}
use Rattle.py_expressions.proofs.targets.alone.Goals as goal

pub returns-in-Name : goal.returns-in-Name
returns-in-Name c = c.then_some.ensures ∙ sym (ap (alone_of c.args.is_name) c.in-Name.is ∙ alone_name c.args.is_name c.in-Name.name)

pub returns-in_default : goal.returns-in_default
unfolding alone_of
returns-in_default c =
    elim c.args.is_name as (λ b. let none : Option Target = None in none ≡ alone_of b c.args.value) [
      | true ↦ first_of (search (rules, the_lemmas), grind (arith, the_lemmas))
      | false ↦ refl
    ]
