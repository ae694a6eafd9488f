-- Formed trees: those that sources have.
use Rattle.std.specs.Prelude.{◌≡◌, ℕ, ℤ, pos, negsuc, ◌+◌, ◌<◌, ◌^◌, Bool, true, false, not, ◌&&◌, ◌||◌, if◌then◌else◌, nat_lt}
use Rattle.std.specs.Prelude.{nat_le, List, [], ◌∷◌, ◌++◌, map, Option, Some, None, is_some}
use Rattle.std.specs.List.{list_all, list_any, flat_map, concat, sum}
use Rattle.std.specs.Str.{bytes_eq}
use Rattle.py_tree.specs.declared.expr.Expr.{Expr}
use Rattle.py_tree.specs.declared.expr.Expr.TheOpen.{Expr-F}
use Rattle.py_tree.specs.declared.expr.Expr.TheFolds.{fold-Expr}
use Rattle.py_tree.specs.declared.stmt.Target.{Target, out-Target}
use Rattle.py_tree.specs.declared.stmt.Target.TheOpen.{Target-F}
use Rattle.py_tree.specs.declared.stmt.Target.TheFolds.{fold-Target}
use Rattle.py_tree.specs.declared.stmt.Alias.{Alias}
use Rattle.py_tree.specs.declared.stmt.Param.{Param}
use Rattle.py_tree.specs.declared.stmt.Module.{Module}
use Rattle.py_tree.specs.declared.stmt.Branch.{Branch}
use Rattle.py_tree.specs.declared.stmt.Handler.{Handler}
use Rattle.py_tree.specs.declared.stmt.Stmt.{Stmt}
use Rattle.py_tree.specs.declared.stmt.StmtKind.{StmtKind}
use Rattle.py_tree.specs.declared.stmt.StmtKind.TheOpen.{StmtKind-F, Stmt-F, Branch-F, Handler-F}
use Rattle.py_tree.specs.declared.stmt.StmtKind.TheFolds.{fold-StmtKind, fold-Branch, fold-Handler, fold-Stmt}

-- ---- parts

-- a list of one or more
abbrev pub has_one : {A : Type 0} → List A → Bool
has_one [] = false
has_one (x ∷ xs) = true

-- a list of two or more
abbrev pub has_two : {A : Type 0} → List A → Bool
has_two [] = false
has_two (x ∷ xs) = has_one xs

-- is each byte below 128?
abbrev pub is_ascii : List ℕ → Bool
is_ascii text = list_all (λ byte. nat_lt byte 128) text

-- a number has no sign, and 30 bits at most
abbrev pub is_number : ℤ → Bool
is_number (pos n) = nat_lt n (2 ^ 30)
is_number (negsuc n) = false

-- ---- expressions

-- whether an expression is formed, by its parts
abbrev pub expr_step : Expr-F Bool → Bool
expr_step Expr-F.None = true
expr_step Expr-F.True = true
expr_step Expr-F.False = true
expr_step (Expr-F.Int n) = is_number n
expr_step (Expr-F.Str text) = is_ascii text
expr_step (Expr-F.Name name) = is_ascii name
expr_step (Expr-F.Unary op value) = value
expr_step (Expr-F.Binary op left right) = left && right
expr_step (Expr-F.And items) = has_two items && list_all (λ item. item) items
expr_step (Expr-F.Or items) = has_two items && list_all (λ item. item) items
expr_step (Expr-F.Not value) = value
expr_step (Expr-F.Compare first rest) = first && (has_one rest && list_all (λ pair. pair.1) rest)
expr_step (Expr-F.Cond test on off) = test && (on && off)
expr_step (Expr-F.Tuple items) = list_all (λ item. item) items
expr_step (Expr-F.List items) = list_all (λ item. item) items
expr_step (Expr-F.Dict pairs) = list_all (λ pair. pair.0 && pair.1) pairs
expr_step (Expr-F.Attr object name) = object && is_ascii name
expr_step (Expr-F.Index object index) = object && index
expr_step (Expr-F.Call callee args keys) = callee && (list_all (λ arg. arg) args && list_all (λ key. is_ascii key.0 && key.1) keys)

-- is the expression formed?
abbrev pub expr_formed : Expr → Bool
expr_formed = fold-Expr Bool expr_step

-- ---- targets

-- is a target formed, by its parts?
abbrev pub target_step : Target-F Bool → Bool
target_step (Target-F.Name name) = is_ascii name
target_step (Target-F.Attr object name) = expr_formed object && is_ascii name
target_step (Target-F.Index object index) = expr_formed object && expr_formed index
target_step (Target-F.Unpack targets) = has_one targets && list_all (λ target. target) targets

-- is the target formed?
abbrev pub target_formed : Target → Bool
target_formed = fold-Target Bool target_step

-- a target by its outermost part
abbrev pub Layer : Type 0
Layer = Target-F Target

-- what an augmented assignment may store to
abbrev pub is_single : Layer → Bool
is_single (Target-F.Unpack targets) = false
is_single _ = true

-- what a `del` may remove
abbrev pub is_gone : Layer → Bool
is_gone (Target-F.Name name) = true
is_gone (Target-F.Index object index) = true
is_gone _ = false

-- ---- parts of statements

-- is the expression formed, if there is one?
abbrev pub option_formed : Option Expr → Bool
option_formed None = true
option_formed (Some value) = expr_formed value

-- is the text ASCII, if there is one?
abbrev pub option_ascii : Option (List ℕ) → Bool
option_ascii None = true
option_ascii (Some text) = is_ascii text

-- are the names of an import ASCII?
abbrev pub alias_formed : Alias → Bool
alias_formed alias = is_ascii alias.name && option_ascii alias.bound

-- is a parameter formed, with its default?
abbrev pub param_formed : Param → Bool
param_formed param = is_ascii param.name && option_formed param.default

-- names of parameters differ
abbrev pub names_differ : List Param → Bool
names_differ [] = true
names_differ (p ∷ ps) = not (list_any (λ q. bytes_eq q.name p.name) ps) && names_differ ps

-- no parameter without a default stands behind one with a default
abbrev pub defaults_last : List Param → Bool
defaults_last [] = true
defaults_last (p ∷ ps) = if is_some p.default then list_all (λ q. is_some q.default) ps else defaults_last ps

-- are parameters formed, with names that differ and those with defaults last?
abbrev pub params_formed : List Param → Bool
params_formed params = list_all param_formed params && (names_differ params && defaults_last params)

-- ---- statements

-- what a `try` asks of a handler: whether it has a test, and whether it is formed
abbrev pub Handled : Type 0
Handled = Bool × Bool

-- only the last may lack a test
abbrev pub tests_first : List Handled → Bool
tests_first [] = true
tests_first (h ∷ hs) = (h.0 || not (has_one hs)) && tests_first hs

-- a body has a statement
abbrev pub body_formed : List Bool → Bool
body_formed body = has_one body && list_all (λ stmt. stmt) body

-- is a body formed, if there is one?
abbrev pub last_formed : Option (List Bool) → Bool
last_formed None = true
last_formed (Some body) = body_formed body

-- is a statement formed, by its parts?
abbrev pub kind_step : StmtKind-F Bool Bool Handled Bool → Bool
kind_step (StmtKind-F.Expr value) = expr_formed value
kind_step (StmtKind-F.Assign targets value) = has_one targets && (list_all target_formed targets && expr_formed value)
kind_step (StmtKind-F.Aug target op value) = is_single (out-Target target) && (target_formed target && expr_formed value)
kind_step (StmtKind-F.Del targets) = has_one targets && list_all (λ target. is_gone (out-Target target) && target_formed target) targets
kind_step StmtKind-F.Pass = true
kind_step StmtKind-F.Break = true
kind_step StmtKind-F.Continue = true
kind_step (StmtKind-F.Return value) = option_formed value
kind_step (StmtKind-F.Raise value) = option_formed value
kind_step (StmtKind-F.Global names) = has_one names && list_all is_ascii names
kind_step (StmtKind-F.Import names) = has_one names && list_all alias_formed names
kind_step (StmtKind-F.From path names) = is_ascii path && (has_one names && list_all alias_formed names)
kind_step (StmtKind-F.Assert test message) = expr_formed test && option_formed message
kind_step (StmtKind-F.If branches rest) = has_one branches && (list_all (λ branch. branch) branches && list_all (λ stmt. stmt) rest)
kind_step (StmtKind-F.While test inner rest) = expr_formed test && (body_formed inner && list_all (λ stmt. stmt) rest)
kind_step (StmtKind-F.For target over inner rest) =
    target_formed target && (expr_formed over && (body_formed inner && list_all (λ stmt. stmt) rest))
-- it goes on with a handler or a `finally`, and has an `else` only behind a handler
kind_step (StmtKind-F.Try inner handlers rest last) =
    body_formed inner && ((has_one handlers || is_some last) && ((has_one handlers || not (has_one rest))
    && (tests_first handlers && (list_all (λ handler. handler.1) handlers && (list_all (λ stmt. stmt) rest && last_formed last)))))
kind_step (StmtKind-F.Def name params inner) = is_ascii name && (params_formed params && body_formed inner)

-- is a branch formed, by its parts?
abbrev pub branch_step : Branch-F Bool Bool Handled Bool → Bool
branch_step branch = expr_formed branch.test && body_formed branch.body

-- one without a test has no name
abbrev pub handler_step : Handler-F Bool Bool Handled Bool → Handled
handler_step handler = (
  is_some handler.test,
  (is_some handler.test || not (is_some handler.name))
      && (option_formed handler.test && (option_ascii handler.name && body_formed handler.body)),
)

-- is a statement formed with its line?
abbrev pub stmt_step : Stmt-F Bool Bool Handled Bool → Bool
stmt_step stmt = stmt.kind

-- is the statement formed?
abbrev pub kind_formed : StmtKind → Bool
kind_formed = fold-StmtKind Bool Bool Handled Bool kind_step branch_step handler_step stmt_step

-- is the branch formed?
abbrev pub branch_formed : Branch → Bool
branch_formed = fold-Branch Bool Bool Handled Bool kind_step branch_step handler_step stmt_step

-- is the except clause formed, and has it a test?
abbrev pub handled : Handler → Handled
handled = fold-Handler Bool Bool Handled Bool kind_step branch_step handler_step stmt_step

-- is the statement with its line formed?
abbrev pub stmt_formed : Stmt → Bool
stmt_formed = fold-Stmt Bool Bool Handled Bool kind_step branch_step handler_step stmt_step

-- ---- lines

-- the lines in text order
abbrev pub Lines : Type 0
Lines = List ℕ

-- the lines of a body, if there is one
abbrev pub optional_lines : Option (List Lines) → Lines
optional_lines None = []
optional_lines (Some body) = concat body

-- the lines in a statement, by its parts
abbrev pub kind_lines : StmtKind-F Lines Lines Lines Lines → Lines
kind_lines (StmtKind-F.If branches rest) = concat branches ++ concat rest
kind_lines (StmtKind-F.While test inner rest) = concat inner ++ concat rest
kind_lines (StmtKind-F.For target over inner rest) = concat inner ++ concat rest
kind_lines (StmtKind-F.Try inner handlers rest last) = concat inner ++ (concat handlers ++ (concat rest ++ optional_lines last))
kind_lines (StmtKind-F.Def name params inner) = concat inner
kind_lines _ = []

-- the line of a branch, and those in it
abbrev pub branch_lines : Branch-F Lines Lines Lines Lines → Lines
branch_lines branch = branch.line ∷ concat branch.body

-- the line of an except clause, and those in it
abbrev pub handler_lines : Handler-F Lines Lines Lines Lines → Lines
handler_lines handler = handler.line ∷ concat handler.body

-- the line of a statement, and those in it
abbrev pub own_lines : Stmt-F Lines Lines Lines Lines → Lines
own_lines stmt = stmt.line ∷ stmt.kind

-- the lines in a statement
abbrev pub kind_rows : StmtKind → Lines
kind_rows = fold-StmtKind Lines Lines Lines Lines kind_lines branch_lines handler_lines own_lines

-- the lines of a branch
abbrev pub branch_rows : Branch → Lines
branch_rows = fold-Branch Lines Lines Lines Lines kind_lines branch_lines handler_lines own_lines

-- the lines of an except clause
abbrev pub handler_rows : Handler → Lines
handler_rows = fold-Handler Lines Lines Lines Lines kind_lines branch_lines handler_lines own_lines

-- the lines of a statement, its own first
abbrev pub stmt_lines : Stmt → Lines
stmt_lines = fold-Stmt Lines Lines Lines Lines kind_lines branch_lines handler_lines own_lines

-- none is below this one, and none below one in front of it
abbrev pub never_fall : ℕ → Lines → Bool
never_fall least [] = true
never_fall least (line ∷ lines) = nat_le least line && never_fall line lines

-- ---- functions

-- how many functions a body defines, if there is one
abbrev pub optional_defs : Option (List ℕ) → ℕ
optional_defs None = 0
optional_defs (Some body) = sum body

-- how many functions a statement defines, by its parts
abbrev pub kind_defs : StmtKind-F ℕ ℕ ℕ ℕ → ℕ
kind_defs (StmtKind-F.If branches rest) = sum branches + sum rest
kind_defs (StmtKind-F.While test inner rest) = sum inner + sum rest
kind_defs (StmtKind-F.For target over inner rest) = sum inner + sum rest
kind_defs (StmtKind-F.Try inner handlers rest last) = sum inner + (sum handlers + (sum rest + optional_defs last))
kind_defs (StmtKind-F.Def name params inner) = sum inner + 1
kind_defs _ = 0

-- how many functions a branch defines, by its body
abbrev pub branch_defs : Branch-F ℕ ℕ ℕ ℕ → ℕ
branch_defs branch = sum branch.body

-- how many functions an except clause defines, by its body
abbrev pub handler_defs : Handler-F ℕ ℕ ℕ ℕ → ℕ
handler_defs handler = sum handler.body

-- how many functions a statement with its line defines
abbrev pub own_defs : Stmt-F ℕ ℕ ℕ ℕ → ℕ
own_defs stmt = stmt.kind

-- how many functions a statement defines, those in functions among them
abbrev pub kind_count : StmtKind → ℕ
kind_count = fold-StmtKind ℕ ℕ ℕ ℕ kind_defs branch_defs handler_defs own_defs

-- how many functions a branch defines
abbrev pub branch_count : Branch → ℕ
branch_count = fold-Branch ℕ ℕ ℕ ℕ kind_defs branch_defs handler_defs own_defs

-- how many functions an except clause defines
abbrev pub handler_count : Handler → ℕ
handler_count = fold-Handler ℕ ℕ ℕ ℕ kind_defs branch_defs handler_defs own_defs

-- how many `def`s a statement holds
abbrev pub stmt_defs : Stmt → ℕ
stmt_defs = fold-Stmt ℕ ℕ ℕ ℕ kind_defs branch_defs handler_defs own_defs

-- ---- a source

-- a formed tree: its statements are formed, its lines never fall, and its functions are fewer than 2^32
pub record IsFormed (tree : Module) : Type 0 where
  pub parts : list_all stmt_formed tree.body ≡ true
  -- its lines are from 1 on and never fall
  pub lines : never_fall 1 (flat_map stmt_lines tree.body) ≡ true
  -- fewer functions than numbers for them
  pub defs : sum (map stmt_defs tree.body) < 2 ^ 32
