-- The functions that a text defines itself, among all of its functions.
use Rattle.std.specs.Prelude.{◌≡◌, ℕ, ◌+◌, List, [], ◌∷◌, ◌++◌, Some, slice_get}
use Rattle.tr_source.specs.py_meaning.Tree.{Function, functions}
use Rattle.emit_stmt.specs.Children.{Made}

-- the function stands among these, of which the first one has the number n
pub record IsDefined (functions : List Function) (n : ℕ) (m : Made) : Type 0 where
  pub place : ℕ
  pub function : Function
  pub number : m.number ≡ n + place
  pub found : slice_get functions place ≡ Some function
  pub name : function.name ≡ m.name
  pub given : function.given ≡ m.given

-- behind each function stand first those in it
abbrev pub AllBegin : List Function → Type 0
AllBegin [] = Unit {0}
AllBegin (f ∷ fs) = (others : List Function) × (fs ≡ functions f.body ++ others) × AllBegin fs
