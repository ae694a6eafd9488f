-- Numbers of functions.
use Rattle.std.specs.Prelude.{◌≡◌, ℕ, ◌+◌, ◌≤◌, suc, List, [], ◌∷◌, ◌++◌, map, Some, slice_get}
use Rattle.py_meaning.specs.Tree.{Stmt, Do, Assign, AugName, AugAttr, AugIndex, Delete, Pass, Break, Continue, ReturnNone, Return}
use Rattle.py_meaning.specs.Tree.{Reraise, Raise, Assert, AssertWith, Import, From, If, While, For, Try, Finally, TryFinally, Def}
use Rattle.py_meaning.specs.Tree.{Block, End, Next, Branches, Else, Case, Handlers, NoHandler, Any, On, OnAs}
use Rattle.py_meaning.specs.Program.{Text}

-- the numbers of the functions that are defined in a text itself, in text order
abbrev mutual
  pub numbers_in : Block → List ℕ
  numbers_in End = []
  numbers_in (Next line s b) = numbers_by s ++ numbers_in b

  pub numbers_by : Stmt → List ℕ
  numbers_by (Do value) = []
  numbers_by (Assign targets value) = []
  numbers_by (AugName name op value) = []
  numbers_by (AugAttr object name op value) = []
  numbers_by (AugIndex object index op value) = []
  numbers_by (Delete targets) = []
  numbers_by Pass = []
  numbers_by Break = []
  numbers_by Continue = []
  numbers_by ReturnNone = []
  numbers_by (Return value) = []
  numbers_by Reraise = []
  numbers_by (Raise value) = []
  numbers_by (Assert test) = []
  numbers_by (AssertWith test message) = []
  numbers_by (Import names) = []
  numbers_by (From path names) = []
  numbers_by (If branches) = numbers_of branches
  numbers_by (While test body rest) = numbers_in body ++ numbers_in rest
  numbers_by (For target over body rest) = numbers_in body ++ numbers_in rest
  numbers_by (Try body handlers rest) = numbers_in body ++ numbers_from handlers ++ numbers_in rest
  numbers_by (Finally body last) = numbers_in body ++ numbers_in last
  numbers_by (TryFinally body handlers rest last) = numbers_in body ++ numbers_from handlers ++ numbers_in rest ++ numbers_in last
  numbers_by (Def number name params defaults body) = number ∷ []

  pub numbers_of : Branches → List ℕ
  numbers_of (Else body) = numbers_in body
  numbers_of (Case line test body branches) = numbers_in body ++ numbers_of branches

  pub numbers_from : Handlers → List ℕ
  numbers_from NoHandler = []
  numbers_from (Any line body) = numbers_in body
  numbers_from (On line test body handlers) = numbers_in body ++ numbers_from handlers
  numbers_from (OnAs line test name body handlers) = numbers_in body ++ numbers_from handlers

-- they rise from one number on and stay below another
abbrev pub Rises : ℕ → List ℕ → ℕ → Type 0
Rises least [] past = least ≤ past
Rises least (n ∷ ns) past = (least ≤ n) × Rises (suc n) ns past

-- no number stands at two places
abbrev pub NoneTwice : List ℕ → Type 0
NoneTwice ns = (i j n : ℕ) → slice_get ns i ≡ Some n → slice_get ns j ≡ Some n → j ≡ i

-- no two functions of a text have the same number in its file
abbrev pub IsNumbered : Text → Type 0
IsNumbered text = NoneTwice (map (λ m. text.base + m) (numbers_in text.body))

-- no two functions of one of the texts have the same number in its file
abbrev pub AllNumbered : List Text → Type 0
AllNumbered [] = Unit {0}
AllNumbered (text ∷ texts) = IsNumbered text × AllNumbered texts
