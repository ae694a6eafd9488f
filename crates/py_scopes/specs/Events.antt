-- What the parts of a source do with names, in text order.
use Rattle.std.specs.Prelude.{ℕ, List, [], ◌∷◌, ◌++◌, Bool, true, false, Option, Some, None, map, nat_eq, if◌then◌else◌}
use Rattle.std.specs.List.{flat_map}
use Rattle.py_tree.specs.declared.expr.Expr.{Expr}
use Rattle.py_tree.specs.declared.expr.Expr.TheOpen.{Expr-F}
use Rattle.py_tree.specs.declared.expr.Expr.TheFolds.{fold-Expr}
use Rattle.py_tree.specs.declared.stmt.Alias.{Alias}
use Rattle.py_tree.specs.declared.stmt.Param.{Param}
use Rattle.py_tree.specs.declared.stmt.Module.{Module}
use Rattle.py_tree.specs.declared.stmt.Target.{Target}
use Rattle.py_tree.specs.declared.stmt.Target.TheOpen.{Target-F}
use Rattle.py_tree.specs.declared.stmt.Target.TheFolds.{fold-Target}
use Rattle.py_tree.specs.declared.stmt.Branch.{Branch}
use Rattle.py_tree.specs.declared.stmt.Handler.{Handler}
use Rattle.py_tree.specs.declared.stmt.Stmt.{Stmt}
use Rattle.py_tree.specs.declared.stmt.StmtKind.TheOpen.{StmtKind-F, Stmt-F, Branch-F, Handler-F}
use Rattle.py_tree.specs.declared.stmt.StmtKind.TheFolds.{fold-Stmt, fold-Branch, fold-Handler}
use Rattle.py_scopes.specs.declared.event.Act.{Act}
use Rattle.py_scopes.specs.declared.event.Act.TheVariants.{Use, Bind, Declare, Jump, Return, Enter, Leave}
use Rattle.py_scopes.specs.declared.event.Event.{Event}

-- ---- acts of an expression

-- the names that an expression uses, as they stand in the text, by those of its parts
abbrev pub expr_step : Expr-F (List Act) → List Act
expr_step Expr-F.None = []
expr_step Expr-F.True = []
expr_step Expr-F.False = []
expr_step (Expr-F.Int n) = []
expr_step (Expr-F.Str text) = []
expr_step (Expr-F.Name name) = Use name ∷ []
expr_step (Expr-F.Unary op value) = value
expr_step (Expr-F.Binary op left right) = left ++ right
expr_step (Expr-F.And items) = flat_map (λ item. item) items
expr_step (Expr-F.Or items) = flat_map (λ item. item) items
expr_step (Expr-F.Not value) = value
expr_step (Expr-F.Compare first rest) = first ++ flat_map (λ pair. pair.1) rest
expr_step (Expr-F.Cond test on off) = on ++ (test ++ off)
expr_step (Expr-F.Tuple items) = flat_map (λ item. item) items
expr_step (Expr-F.List items) = flat_map (λ item. item) items
expr_step (Expr-F.Dict pairs) = flat_map (λ pair. pair.0 ++ pair.1) pairs
expr_step (Expr-F.Attr object name) = object
expr_step (Expr-F.Index object index) = object ++ index
expr_step (Expr-F.Call callee args keys) = callee ++ (flat_map (λ arg. arg) args ++ flat_map (λ key. key.1) keys)

-- what an expression does with names: it uses them
abbrev pub acts_of : Expr → List Act
acts_of = fold-Expr (List Act) expr_step

-- ---- acts of a target

-- the acts of an expression, if there is one
abbrev pub acts_of_option : Option Expr → List Act
acts_of_option None = []
acts_of_option (Some e) = acts_of e

-- what a target does with names, by its parts
abbrev pub target_step : Target-F (List Act) → List Act
target_step (Target-F.Name name) = Bind name ∷ []
target_step (Target-F.Attr object name) = acts_of object
target_step (Target-F.Index object index) = acts_of object ++ acts_of index
target_step (Target-F.Unpack targets) = flat_map (λ t. t) targets

-- what a target does with names: it binds its name, or uses those of its object
abbrev pub target_acts : Target → List Act
target_acts = fold-Target (List Act) target_step

-- ---- events of a statement

-- the acts of one line
abbrev pub at : ℕ → List Act → List Event
at line acts = map (λ (act : Act). record { line = line; act = act }) acts

-- the name in front of the first dot
abbrev pub first_part : List ℕ → List ℕ
first_part [] = []
first_part (b ∷ bytes) = if nat_eq b 46 then [] else b ∷ first_part bytes

-- an import binds the name behind `as`, or else the first part of its own
abbrev pub bound_by : Alias → List ℕ
bound_by alias = elim alias.bound [ None ↦ first_part alias.name | Some name ↦ name ]

-- the bindings of what is imported
abbrev pub import_acts : List Alias → List Act
import_acts names = map (λ (alias : Alias). Bind (bound_by alias)) names

-- the binding of a name, if there is one
abbrev pub optional_name : Option (List ℕ) → List Act
optional_name None = []
optional_name (Some name) = Bind name ∷ []

-- what a statement, a branch or a handler does, by whether a loop of the same function encloses it
abbrev pub Part : Type 0
Part = Bool → List Event

-- the parts of a body, one behind another
abbrev pub body : Bool → List Part → List Event
body looped parts = flat_map (λ (part : Part). part looped) parts

-- the events of a body, if there is one
abbrev pub optional_body : Bool → Option (List Part) → List Event
optional_body looped None = []
optional_body looped (Some parts) = body looped parts

-- a function's own text: its parameters are bound where it begins, and no loop around the `def` encloses it
abbrev pub function : ℕ → List Param → List Part → List Event
function line params parts =
    at line (Enter ∷ map (λ (param : Param). Bind param.name) params) ++ (body false parts ++ at line (Leave ∷ []))

-- a statement's kind, by the line of the statement
abbrev pub kind_step : StmtKind-F (ℕ → Part) Part Part Part → ℕ → Part
kind_step (StmtKind-F.Expr value) line looped = at line (acts_of value)
kind_step (StmtKind-F.Assign targets value) line looped = at line (flat_map target_acts targets ++ acts_of value)
-- a name that is augmented is bound, and so it is local or global, whatever encloses the function
kind_step (StmtKind-F.Aug target op value) line looped = at line (target_acts target ++ acts_of value)
kind_step (StmtKind-F.Del targets) line looped = at line (flat_map target_acts targets)
kind_step StmtKind-F.Pass line looped = []
kind_step StmtKind-F.Break line looped = at line (Jump looped ∷ [])
kind_step StmtKind-F.Continue line looped = at line (Jump looped ∷ [])
kind_step (StmtKind-F.Return value) line looped = at line (Return ∷ acts_of_option value)
kind_step (StmtKind-F.Raise value) line looped = at line (acts_of_option value)
kind_step (StmtKind-F.Global names) line looped = at line (map Declare names)
kind_step (StmtKind-F.Import names) line looped = at line (import_acts names)
kind_step (StmtKind-F.From path names) line looped = at line (import_acts names)
kind_step (StmtKind-F.Assert test message) line looped = at line (acts_of test ++ acts_of_option message)
kind_step (StmtKind-F.If branches rest) line looped = body looped branches ++ body looped rest
-- a loop doesn't enclose its `else`
kind_step (StmtKind-F.While test inner rest) line looped = at line (acts_of test) ++ (body true inner ++ body looped rest)
kind_step (StmtKind-F.For target over inner rest) line looped =
    at line (target_acts target ++ acts_of over) ++ (body true inner ++ body looped rest)
kind_step (StmtKind-F.Try inner handlers rest last) line looped =
    body looped inner ++ (body looped handlers ++ (body looped rest ++ optional_body looped last))
-- defaults belong to the enclosing text
kind_step (StmtKind-F.Def name params inner) line looped =
    at line (Bind name ∷ flat_map (λ (param : Param). acts_of_option param.default) params) ++ function line params inner

-- the events of a branch: those of its test and of its body
abbrev pub branch_step : Branch-F (ℕ → Part) Part Part Part → Part
branch_step branch looped = at branch.line (acts_of branch.test) ++ body looped branch.body

-- the events of an except clause: those of its test, its name and its body
abbrev pub handler_step : Handler-F (ℕ → Part) Part Part Part → Part
handler_step handler looped =
    at handler.line (acts_of_option handler.test ++ optional_name handler.name) ++ body looped handler.body

-- the events of a statement, in its line
abbrev pub stmt_step : Stmt-F (ℕ → Part) Part Part Part → Part
stmt_step stmt looped = stmt.kind stmt.line looped

-- the events of a statement with those in it
abbrev pub stmt_events : Stmt → Part
stmt_events = fold-Stmt (ℕ → Part) Part Part Part kind_step branch_step handler_step stmt_step

-- the events of a branch with those in it
abbrev pub branch_events : Branch → Part
branch_events = fold-Branch (ℕ → Part) Part Part Part kind_step branch_step handler_step stmt_step

-- the events of an except clause with those in it
abbrev pub handler_events : Handler → Part
handler_events = fold-Handler (ℕ → Part) Part Part Part kind_step branch_step handler_step stmt_step

-- what a source does with names
abbrev pub events_of : Module → List Event
events_of tree = body false (map stmt_events tree.body)
