-- The names that a source imports, in the order of its text: those of the module's own statements, and behind them those of each
-- function's.
use Rattle.std.specs.Prelude.{List, [], ◌∷◌, ◌++◌, map}
use Rattle.std.specs.List.{flat_map}
use Rattle.tr_source.specs.py_tree.declared.stmt.Alias.{Alias}
use Rattle.tr_source.specs.bc_scheme.py_meaning.Tree.{Name, Stmt, Do, Assign, AugName, AugAttr, AugIndex, Delete, Pass, Break}
use Rattle.tr_source.specs.bc_scheme.py_meaning.Tree.{Continue, ReturnNone, Return, Reraise, Raise, Assert, AssertWith, Import}
use Rattle.tr_source.specs.bc_scheme.py_meaning.Tree.{From, If, While, For, Try, Finally, TryFinally, Def, Block, End, Next}
use Rattle.tr_source.specs.bc_scheme.py_meaning.Tree.{Branches, Else, Case, Handlers, NoHandler, Any, On, OnAs, Function}
use Rattle.tr_source.specs.bc_scheme.py_meaning.Tree.{functions}
use Rattle.tr_source.specs.bc_scheme.py_meaning.Program.{Source}

-- the names that an import names
abbrev pub names_of : List Alias → List Name
names_of aliases = map (λ (a : Alias). a.name) aliases

-- the names that a text's own statements import. The body of a function is another text
abbrev mutual
  pub imports : Block → List Name
  imports End = []
  imports (Next line s b) = imports_in s ++ imports b

  pub imports_in : Stmt → List Name
  imports_in (Do value) = []
  imports_in (Assign targets value) = []
  imports_in (AugName name op value) = []
  imports_in (AugAttr object name op value) = []
  imports_in (AugIndex object index op value) = []
  imports_in (Delete targets) = []
  imports_in Pass = []
  imports_in Break = []
  imports_in Continue = []
  imports_in ReturnNone = []
  imports_in (Return value) = []
  imports_in Reraise = []
  imports_in (Raise value) = []
  imports_in (Assert test) = []
  imports_in (AssertWith test message) = []
  imports_in (Import aliases) = names_of aliases
  imports_in (From name aliases) = name ∷ []
  imports_in (If branches) = imports_of branches
  imports_in (While test body rest) = imports body ++ imports rest
  imports_in (For target over body rest) = imports body ++ imports rest
  imports_in (Try body handlers rest) = imports body ++ imports_by handlers ++ imports rest
  imports_in (Finally body last) = imports body ++ imports last
  imports_in (TryFinally body handlers rest last) = (imports body ++ imports_by handlers ++ imports rest) ++ imports last
  imports_in (Def number name params defaults body) = []

  pub imports_of : Branches → List Name
  imports_of (Else body) = imports body
  imports_of (Case line test body branches) = imports body ++ imports_of branches

  pub imports_by : Handlers → List Name
  imports_by NoHandler = []
  imports_by (Any line body) = imports body
  imports_by (On line test body handlers) = imports body ++ imports_by handlers
  imports_by (OnAs line test name body handlers) = imports body ++ imports_by handlers

-- the names that a module's own statements import, and those of each function
abbrev pub source_imports : Source → List Name
source_imports source = imports source.body ++ flat_map (λ (f : Function). imports f.body) (functions source.body)
