-- A function value that reads what nests, to a depth.
use Rattle.std.specs.Prelude.{ℕ, Result}
use Rattle.std.specs.declared.alloc.Global.{Global}
use denote.Ref.{MutBor}
use Rattle.mpy_base.specs.declared.refused.Refused.{Refused}
use Rattle.py_tree.specs.declared.expr.Expr.{Expr}
use Rattle.py_expressions.specs.declared.cursor.Cursor.{Cursor}
use Rattle.py_expressions.specs.declared.cursor.Syntax.{Syntax}
use Rattle.py_expressions.specs.declared.grammar.Rule.{Rule}
use Rattle.py_expressions.specs.Input.{input_of, Reads}
use Rattle.py_expressions.specs.Reading.{expr}

-- it may be called with any input and rule, and reads what `expr` reads to that depth
pub record Nests (depth : ℕ) (pre : Global → MutBor Cursor → ℕ → Rule → Type 0)
    (post : Global → MutBor Cursor → ℕ → Rule → Result Expr (Refused Syntax) → MutBor Cursor → Type 0) : Type 0 where
  pub callable : (alloc : Global) (old : MutBor Cursor) (which : Rule) → pre alloc old depth which
  pub reads : (alloc : Global) (old new : MutBor Cursor) (which : Rule) (r : Result Expr (Refused Syntax)) → post alloc old depth which r new
      → Reads (expr depth which (input_of old.now)) r new.now
