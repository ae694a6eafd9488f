-- The locals of a function in the words of its tree.
use Rattle.std.specs.Prelude.{not, List, [], ◌∷◌, ◌++◌, filter, map}
use Rattle.py_scopes.specs.Names.{has, firsts}
use Rattle.py_scopes.specs.Events.{bound_by}
use Rattle.py_meaning.specs.Tree.{Name, Target, ToName, ToAttr, ToIndex, ToEach, Targets, Only, Then, Stmt, Do, Assign, AugName}
use Rattle.py_meaning.specs.Tree.{AugAttr, AugIndex, Delete, Pass, Break, Continue, ReturnNone, Return, Reraise, Raise, Assert}
use Rattle.py_meaning.specs.Tree.{AssertWith, Import, From, If, While, For, Try, Finally, TryFinally, Def, Block, End, Next}
use Rattle.py_meaning.specs.Tree.{Branches, Else, Case, Handlers, NoHandler, Any, On, OnAs, Function}

-- the names that a store to a target binds
abbrev mutual
  pub names_to : Target → List Name
  names_to (ToName name) = name ∷ []
  names_to (ToAttr object name) = []
  names_to (ToIndex object index) = []
  names_to (ToEach targets) = names_to_each targets

  pub names_to_each : Targets → List Name
  names_to_each (Only t) = names_to t
  names_to_each (Then t ts) = names_to t ++ names_to_each ts

-- the names that a text itself binds, in text order. A name that is deleted or augmented is bound
abbrev mutual
  pub bound_in : Block → List Name
  bound_in End = []
  bound_in (Next line s b) = bound_by_stmt s ++ bound_in b

  pub bound_by_stmt : Stmt → List Name
  bound_by_stmt (Do value) = []
  bound_by_stmt (Assign targets value) = names_to_each targets
  bound_by_stmt (AugName name op value) = name ∷ []
  bound_by_stmt (AugAttr object name op value) = []
  bound_by_stmt (AugIndex object index op value) = []
  bound_by_stmt (Delete targets) = names_to_each targets
  bound_by_stmt Pass = []
  bound_by_stmt Break = []
  bound_by_stmt Continue = []
  bound_by_stmt ReturnNone = []
  bound_by_stmt (Return value) = []
  bound_by_stmt Reraise = []
  bound_by_stmt (Raise value) = []
  bound_by_stmt (Assert test) = []
  bound_by_stmt (AssertWith test message) = []
  bound_by_stmt (Import names) = map bound_by names
  bound_by_stmt (From path names) = map bound_by names
  bound_by_stmt (If branches) = bound_by_branches branches
  bound_by_stmt (While test body rest) = bound_in body ++ bound_in rest
  bound_by_stmt (For target over body rest) = names_to target ++ (bound_in body ++ bound_in rest)
  bound_by_stmt (Try body handlers rest) = bound_in body ++ (bound_by_handlers handlers ++ bound_in rest)
  bound_by_stmt (Finally body last) = bound_in body ++ bound_in last
  bound_by_stmt (TryFinally body handlers rest last) = bound_in body ++ (bound_by_handlers handlers ++ (bound_in rest ++ bound_in last))
  -- the text of the function is its own
  bound_by_stmt (Def number name params defaults body) = name ∷ []

  pub bound_by_branches : Branches → List Name
  bound_by_branches (Else body) = bound_in body
  bound_by_branches (Case line test body branches) = bound_in body ++ bound_by_branches branches

  pub bound_by_handlers : Handlers → List Name
  bound_by_handlers NoHandler = []
  bound_by_handlers (Any line body) = bound_in body
  bound_by_handlers (On line test body handlers) = bound_in body ++ bound_by_handlers handlers
  bound_by_handlers (OnAs line test name body handlers) = name ∷ (bound_in body ++ bound_by_handlers handlers)

-- what a function binds: its parameters, where it begins, and then what its text binds
abbrev pub bound_names : Function → List Name
bound_names f = f.params ++ bound_in f.body

-- the locals by slot: each bound name once, where it is first bound, without those declared global
abbrev pub own_locals : Function → List Name → List Name
own_locals f globals = filter (λ name. not (has name globals)) (firsts (bound_names f))

-- the locals of each function, by the names that it declares global
abbrev pub locals_of : List Function → List (List Name) → List (List Name)
locals_of [] globals = []
locals_of (f ∷ fs) [] = own_locals f [] ∷ locals_of fs []
locals_of (f ∷ fs) (names ∷ globals) = own_locals f names ∷ locals_of fs globals
