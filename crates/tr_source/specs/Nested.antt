-- How deep functions nest in one another.
use Rattle.std.specs.Prelude.{ℕ, suc, max}
use Rattle.emit_measures.specs.bc_scheme.py_meaning.Tree.{Stmt, If, While, For, Try, Finally, TryFinally, Def, Block, End, Next}
use Rattle.emit_measures.specs.bc_scheme.py_meaning.Tree.{Branches, Else, Case, Handlers, NoHandler, Any, On, OnAs}

abbrev mutual
  pub nested : Block → ℕ
  nested End = 0
  nested (Next line s b) = max (nested_by s) (nested b)

  pub nested_by : Stmt → ℕ
  nested_by (If branches) = nested_of branches
  nested_by (While test body rest) = max (nested body) (nested rest)
  nested_by (For target over body rest) = max (nested body) (nested rest)
  nested_by (Try body handlers rest) = max (nested body) (max (nested_from handlers) (nested rest))
  nested_by (Finally body last) = max (nested body) (nested last)
  nested_by (TryFinally body handlers rest last) = max (max (nested body) (max (nested_from handlers) (nested rest))) (nested last)
  nested_by (Def number name params defaults body) = suc (nested body)
  nested_by _ = 0

  pub nested_of : Branches → ℕ
  nested_of (Else body) = nested body
  nested_of (Case line test body branches) = max (nested body) (nested_of branches)

  pub nested_from : Handlers → ℕ
  nested_from NoHandler = 0
  nested_from (Any line body) = nested body
  nested_from (On line test body handlers) = max (nested body) (nested_from handlers)
  nested_from (OnAs line test name body handlers) = max (nested body) (nested_from handlers)
