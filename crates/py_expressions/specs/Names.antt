-- Tables of names.
use Rattle.std.specs.Prelude.{◌≡◌, ℕ, List, drop, Vec}
use Rattle.std.specs.declared.alloc.Global.{Global}
use Rattle.py_tree.specs.declared.expr.Expr.{Expr}
use Rattle.py_expressions.specs.Reading.{names}

-- the bytes of a name
abbrev pub bytes_of : Vec ℕ Global → List ℕ
bytes_of key = key.items

-- the table has the names of the keyword arguments behind the first 16
abbrev pub HasLater : List (List ℕ) → List (List ℕ × Expr) → Type 0
HasLater table keys = table ≡ names (drop 16 keys)
