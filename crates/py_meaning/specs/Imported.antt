-- The modules that a text imports.
use Rattle.std.specs.Prelude.{ℕ, Bool, not, List, [], ◌∷◌, ◌++◌, map, nat_eq, if◌then◌else◌}
use Rattle.std.specs.List.{list_all}
use Rattle.py_scopes.specs.py_tree.declared.stmt.Alias.{Alias}
use Rattle.py_meaning.specs.Tree.{Name, Stmt, Do, Assign, AugName, AugAttr, AugIndex, Delete, Pass, Break, Continue, ReturnNone}
use Rattle.py_meaning.specs.Tree.{Return, Reraise, Raise, Assert, AssertWith, Import, From, If, While, For, Try, Finally}
use Rattle.py_meaning.specs.Tree.{TryFinally, Def, Block, End, Next, Branches, Else, Case, Handlers, NoHandler, Any, On, OnAs}

-- the names of modules in text order, functions' texts among them: whole, as they stand
abbrev mutual
  pub imported : Block → List Name
  imported End = []
  imported (Next line s b) = imported_by s ++ imported b

  pub imported_by : Stmt → List Name
  imported_by (Do value) = []
  imported_by (Assign targets value) = []
  imported_by (AugName name op value) = []
  imported_by (AugAttr object name op value) = []
  imported_by (AugIndex object index op value) = []
  imported_by (Delete targets) = []
  imported_by Pass = []
  imported_by Break = []
  imported_by Continue = []
  imported_by ReturnNone = []
  imported_by (Return value) = []
  imported_by Reraise = []
  imported_by (Raise value) = []
  imported_by (Assert test) = []
  imported_by (AssertWith test message) = []
  imported_by (Import names) = map (λ (alias : Alias). alias.name) names
  imported_by (From path names) = path ∷ []
  imported_by (If branches) = imported_of branches
  imported_by (While test body rest) = imported body ++ imported rest
  imported_by (For target over body rest) = imported body ++ imported rest
  imported_by (Try body handlers rest) = imported body ++ (imported_from handlers ++ imported rest)
  imported_by (Finally body last) = imported body ++ imported last
  imported_by (TryFinally body handlers rest last) = imported body ++ (imported_from handlers ++ (imported rest ++ imported last))
  imported_by (Def number name params defaults body) = imported body

  pub imported_of : Branches → List Name
  imported_of (Else body) = imported body
  imported_of (Case line test body branches) = imported body ++ imported_of branches

  pub imported_from : Handlers → List Name
  imported_from NoHandler = []
  imported_from (Any line body) = imported body
  imported_from (On line test body handlers) = imported body ++ imported_from handlers
  imported_from (OnAs line test name body handlers) = imported body ++ imported_from handlers

-- one more byte in front of the first part
abbrev pub begun : ℕ → List Name → List Name
begun byte [] = (byte ∷ []) ∷ []
begun byte (part ∷ parts) = (byte ∷ part) ∷ parts

-- the parts of a dotted name, of which there is one at least: a dot, 46, ends a part
abbrev pub parts_of : Name → List Name
parts_of [] = [] ∷ []
parts_of (byte ∷ bytes) = if nat_eq byte 46 then [] ∷ parts_of bytes else begun byte (parts_of bytes)

-- the name that parts spell, with a dot between them
abbrev pub spelled_on : Name → List Name → Name
spelled_on part [] = part
spelled_on part (next ∷ parts) = part ++ 46 ∷ spelled_on next parts

-- the name that any number of parts spell, with dots between them; none spell the empty name
abbrev pub spelled : List Name → Name
spelled [] = []
spelled (part ∷ parts) = spelled_on part parts

-- a part without a dot
abbrev pub is_undotted : Name → Bool
is_undotted part = list_all (λ byte. not (nat_eq byte 46)) part
