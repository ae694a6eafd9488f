use Rattle.std.proofs.Common.{◌≡◌, ℕ, List, drop, sym, ap, ◌∙◌}
use Rattle.std.proofs.lemmas.Result.{IfOk-weaker}
use Rattle.py_tree.specs.declared.expr.Expr.{Expr}
use Rattle.py_expressions.specs.Reading.{names}
use Rattle.py_expressions.proofs.grammar.Grammar.argument.Goals as goal

pub returns-else-sees_keyword-clause-later : goal.returns-else-sees_keyword-clause-later
returns-else-sees_keyword-clause-later g c =
    IfOk-weaker c.positional.result (λ more. more.keys ≡ c.args.given.keys) _
    (λ more e. c.requires.later ∙ ap (λ (keys : List (List ℕ × Expr)). names (drop 16 keys)) (sym e)) c.positional.ensures.keys
