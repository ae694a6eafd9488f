-- Words that leave a loop or a function, in their places.
use Rattle.std.specs.Prelude.{◌≡◌, Bool, true, false}
use Rattle.py_meaning.specs.Tree.{Stmt, Do, Assign, AugName, AugAttr, AugIndex, Delete, Pass, Break, Continue, ReturnNone, Return}
use Rattle.py_meaning.specs.Tree.{Reraise, Raise, Assert, AssertWith, Import, From, If, While, For, Try, Finally, TryFinally, Def}
use Rattle.py_meaning.specs.Tree.{Block, End, Next, Branches, Else, Case, Handlers, NoHandler, Any, On, OnAs}

-- within a function or not, and within a loop of the same text or not: `break` and `continue` stand in a loop, and
-- `return` in a function
abbrev mutual
  pub WellPlaced : (inside looped : Bool) → Block → Type 0
  WellPlaced inside looped End = Unit {0}
  WellPlaced inside looped (Next line s b) = IsPlaced inside looped s × WellPlaced inside looped b

  pub IsPlaced : (inside looped : Bool) → Stmt → Type 0
  IsPlaced inside looped (Do value) = Unit {0}
  IsPlaced inside looped (Assign targets value) = Unit {0}
  IsPlaced inside looped (AugName name op value) = Unit {0}
  IsPlaced inside looped (AugAttr object name op value) = Unit {0}
  IsPlaced inside looped (AugIndex object index op value) = Unit {0}
  IsPlaced inside looped (Delete targets) = Unit {0}
  IsPlaced inside looped Pass = Unit {0}
  IsPlaced inside looped Break = looped ≡ true
  IsPlaced inside looped Continue = looped ≡ true
  IsPlaced inside looped ReturnNone = inside ≡ true
  IsPlaced inside looped (Return value) = inside ≡ true
  IsPlaced inside looped Reraise = Unit {0}
  IsPlaced inside looped (Raise value) = Unit {0}
  IsPlaced inside looped (Assert test) = Unit {0}
  IsPlaced inside looped (AssertWith test message) = Unit {0}
  IsPlaced inside looped (Import names) = Unit {0}
  IsPlaced inside looped (From path names) = Unit {0}
  IsPlaced inside looped (If branches) = ArePlaced inside looped branches
  -- a loop doesn't enclose its `else`
  IsPlaced inside looped (While test body rest) = WellPlaced inside true body × WellPlaced inside looped rest
  IsPlaced inside looped (For target over body rest) = WellPlaced inside true body × WellPlaced inside looped rest
  IsPlaced inside looped (Try body handlers rest) = WellPlaced inside looped body × HandlersPlaced inside looped handlers × WellPlaced inside looped rest
  IsPlaced inside looped (Finally body last) = WellPlaced inside looped body × WellPlaced inside looped last
  IsPlaced inside looped (TryFinally body handlers rest last) =
      WellPlaced inside looped body × HandlersPlaced inside looped handlers × WellPlaced inside looped rest × WellPlaced inside looped last
  -- the text of a function stands in no loop
  IsPlaced inside looped (Def number name params defaults body) = WellPlaced true false body

  pub ArePlaced : (inside looped : Bool) → Branches → Type 0
  ArePlaced inside looped (Else body) = WellPlaced inside looped body
  ArePlaced inside looped (Case line test body branches) = WellPlaced inside looped body × ArePlaced inside looped branches

  pub HandlersPlaced : (inside looped : Bool) → Handlers → Type 0
  HandlersPlaced inside looped NoHandler = Unit {0}
  HandlersPlaced inside looped (Any line body) = WellPlaced inside looped body
  HandlersPlaced inside looped (On line test body handlers) = WellPlaced inside looped body × HandlersPlaced inside looped handlers
  HandlersPlaced inside looped (OnAs line test name body handlers) = WellPlaced inside looped body × HandlersPlaced inside looped handlers
