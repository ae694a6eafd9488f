-- Members of which the first stands apart, so that one alone needs no list.
use Rattle.std.specs.Prelude.{ℕ, Bool, if◌then◌else◌, List, [], ◌∷◌, true}
use Rattle.py_tokens.specs.declared.operator.Op.TheVariants as op
use Rattle.py_tree.specs.declared.expr.Expr.{Expr}
use Rattle.py_expressions.specs.declared.cursor.Mark.{Mark}
use Rattle.py_expressions.specs.declared.cursor.Mark.TheVariants as mark
use Rattle.py_expressions.specs.Input.{Parser, ◌>>=◌, pure, peek, eat, closed}
use Rattle.py_expressions.specs.Reading.{begins_test, members_from, tuple_of, tests}

-- item { "," item } [ "," ] as one expression, with `n` items at most behind the first
abbrev pub first_apart : Parser Expr → ℕ → Parser Expr
first_apart item n = do
  x ← item
  comma ← eat (mark.Op op.Comma)
  if comma then (do
    kind ← peek
    if begins_test kind then (do
      found ← members_from item n (x ∷ [])
      pure (tuple_of found.0 found.1)) else pure (tuple_of (x ∷ []) true)) else pure x

-- tests, with no more nestings than `depth`, and this mark
abbrev pub closed_tests : ℕ → Mark → Parser Expr
closed_tests depth mark = do
  found ← tests depth
  closed mark found
