-- The names that functions declare global, which the plain tree leaves out.
use Rattle.std.specs.Prelude.{List, [], ◌∷◌, ◌++◌, map, Option, Some, None}
use Rattle.py_scopes.specs.py_tree.declared.stmt.Module.{Module}
use Rattle.py_scopes.specs.py_tree.declared.stmt.Stmt.{Stmt}
use Rattle.py_scopes.specs.py_tree.declared.stmt.StmtKind.TheOpen.{StmtKind-F, Stmt-F, Branch-F, Handler-F}
use Rattle.py_scopes.specs.py_tree.declared.stmt.StmtKind.TheFolds.{fold-Stmt}
use Rattle.py_meaning.specs.Tree.{Name}

-- what a part of a text declares: the text itself, and each function that is defined in it, in text order
pub record Globals : Type 0 where
  pub own : List Name
  pub inner : List (List Name)

-- nothing is declared
abbrev pub none : Globals
none = record { own = []; inner = [] }

-- two parts, one behind the other
abbrev pub and_then : Globals → Globals → Globals
and_then first second = record { own = first.own ++ second.own; inner = first.inner ++ second.inner }

-- parts one behind the other
abbrev pub all : List Globals → Globals
all [] = none
all (part ∷ parts) = and_then part (all parts)

-- the parts, if there are any
abbrev pub optional : Option (List Globals) → Globals
optional None = none
optional (Some parts) = all parts

-- a function that is defined in a text: its own declarations are those of a new text
abbrev pub function : Globals → Globals
function body = record { own = []; inner = body.own ∷ body.inner }

-- a statement, by the parts in it
abbrev pub kind_step : StmtKind-F Globals Globals Globals Globals → Globals
kind_step (StmtKind-F.Expr value) = none
kind_step (StmtKind-F.Assign targets value) = none
kind_step (StmtKind-F.Aug target op value) = none
kind_step (StmtKind-F.Del targets) = none
kind_step StmtKind-F.Pass = none
kind_step StmtKind-F.Break = none
kind_step StmtKind-F.Continue = none
kind_step (StmtKind-F.Return value) = none
kind_step (StmtKind-F.Raise value) = none
kind_step (StmtKind-F.Global names) = record { own = names; inner = [] }
kind_step (StmtKind-F.Import names) = none
kind_step (StmtKind-F.From path names) = none
kind_step (StmtKind-F.Assert test message) = none
kind_step (StmtKind-F.If branches rest) = and_then (all branches) (all rest)
kind_step (StmtKind-F.While test inner rest) = and_then (all inner) (all rest)
kind_step (StmtKind-F.For target over inner rest) = and_then (all inner) (all rest)
kind_step (StmtKind-F.Try inner handlers rest last) = and_then (all inner) (and_then (all handlers) (and_then (all rest) (optional last)))
kind_step (StmtKind-F.Def name params inner) = function (all inner)

-- a branch, by its body
abbrev pub branch_step : Branch-F Globals Globals Globals Globals → Globals
branch_step branch = all branch.body

-- an except clause, by its body
abbrev pub handler_step : Handler-F Globals Globals Globals Globals → Globals
handler_step handler = all handler.body

-- a statement with its line
abbrev pub stmt_step : Stmt-F Globals Globals Globals Globals → Globals
stmt_step stmt = stmt.kind

-- what a statement declares
abbrev pub stmt_globals : Stmt → Globals
stmt_globals = fold-Stmt Globals Globals Globals Globals kind_step branch_step handler_step stmt_step

-- the names that each function of a source declares global, in text order of the functions
abbrev pub globals_of : Module → List (List Name)
globals_of tree = (all (map stmt_globals tree.body)).inner
