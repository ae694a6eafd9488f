-- A function value that reads statements, to a depth of blocks.
use Rattle.std.specs.Prelude.{ℕ, List, Result}
use Rattle.std.specs.declared.alloc.Global.{Global}
use denote.Ref.{MutBor}
use Rattle.mpy_base.specs.declared.refused.Refused.{Refused}
use Rattle.py_tree.specs.declared.stmt.Stmt.{Stmt}
use Rattle.py_expressions.specs.declared.cursor.Cursor.{Cursor}
use Rattle.py_expressions.specs.declared.cursor.Syntax.{Syntax}
use Rattle.py_expressions.specs.Input.{input_of, Reads}
use Rattle.py_parser.specs.Reading.{stmt}

-- it may be called with any input, and reads what `stmt` reads to that depth
pub record Nests (depth : ℕ) (pre : Global → MutBor Cursor → ℕ → Type 0)
    (post : Global → MutBor Cursor → ℕ → Result (List Stmt) (Refused Syntax) → MutBor Cursor → Type 0) : Type 0 where
  pub callable : (alloc : Global) (old : MutBor Cursor) → pre alloc old depth
  pub reads : (alloc : Global) (old new : MutBor Cursor) (r : Result (List Stmt) (Refused Syntax)) → post alloc old depth r new
      → Reads (stmt depth (input_of old.now)) r new.now
