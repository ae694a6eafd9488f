-- The functions that a text defines itself, and a code's children for them.
use Rattle.std.specs.Prelude.{◌≡◌, ℕ, suc, ◌+◌, List, [], ◌∷◌, ◌++◌, Some, slice_get}
use Rattle.emit_expr.specs.py_meaning.Tree.{Name, count, Stmt, If, While, For, Try, Finally, TryFinally, Def, Block, End, Next}
use Rattle.emit_expr.specs.py_meaning.Tree.{Branches, Else, Case, Handlers, NoHandler, Any, On, OnAs}
use Rattle.emit_expr.specs.bc_scheme.Context.{Context, IsChild}

-- a function: its number in the source, its name, and how many of its parameters have defaults
pub record Made : Type 0 where
  pub number : ℕ
  pub name : Name
  pub given : ℕ

-- the number of a function in its source
abbrev pub number_of : Made → ℕ
number_of m = m.number

-- the functions that are defined in a text itself, in text order
abbrev mutual
  pub made : Block → List Made
  made End = []
  made (Next line s b) = made_in s ++ made b

  pub made_in : Stmt → List Made
  made_in (If branches) = made_of branches
  made_in (While e body rest) = made body ++ made rest
  made_in (For t e body rest) = made body ++ made rest
  made_in (Try body handlers rest) = made body ++ made_by handlers ++ made rest
  made_in (Finally body last) = made body ++ made last
  made_in (TryFinally body handlers rest last) = made body ++ made_by handlers ++ made rest ++ made last
  made_in (Def number name params defaults body) = record { number = number; name = name; given = count defaults } ∷ []
  made_in _ = []

  pub made_of : Branches → List Made
  made_of (Else b) = made b
  made_of (Case line e b branches) = made b ++ made_of branches

  pub made_by : Handlers → List Made
  made_by NoHandler = []
  made_by (Any line b) = made b
  made_by (On line e b handlers) = made b ++ made_by handlers
  made_by (OnAs line e name b handlers) = made b ++ made_by handlers

-- from this index on the code's children begin with these functions
pub data AreChildren (c : Context) : (index : ℕ) → List Made → Type 0 where
  no_child : {i : ℕ} → AreChildren c i []
  child : {i : ℕ} {m : Made} {ms : List Made} → slice_get c.children i ≡ Some (c.base + m.number) → IsChild c (c.base + m.number) m.name m.given
      → AreChildren c (suc i) ms → AreChildren c i (m ∷ ms)
