-- The clauses of compound statements: their order, and what they make of a statement.
use Rattle.std.specs.Prelude.{ℕ, Bool, true, false, List, [], ◌∷◌, ◌++◌, ◌&&◌, if◌then◌else◌, Option, Some, None}
use Rattle.std.specs.List.{list_all}
use Rattle.std.specs.Option.{is_some}
use Rattle.py_tokens.specs.declared.token.Tok.{Tok}
use Rattle.py_tokens.specs.declared.token.Tok.TheVariants as tok
use Rattle.py_tokens.specs.declared.word.Word.{Word}
use Rattle.py_tokens.specs.declared.word.Word.TheVariants as word
use Rattle.py_tree.specs.declared.expr.Expr.{Expr}
use Rattle.py_tree.specs.declared.stmt.Branch.{Branch, roll-Branch}
use Rattle.py_tree.specs.declared.stmt.Handler.{Handler, roll-Handler}
use Rattle.py_tree.specs.declared.stmt.Param.{Param}
use Rattle.py_tree.specs.declared.stmt.Stmt.{Stmt}
use Rattle.py_tree.specs.declared.stmt.StmtKind.{StmtKind}
use Rattle.py_tree.specs.declared.stmt.StmtKind.TheVariants as s
use Rattle.py_expressions.specs.Reading.{is_new}
use Rattle.py_parser.specs.declared.clause.Head.{Head}
use Rattle.py_parser.specs.declared.clause.Head.TheVariants as head
use Rattle.py_parser.specs.declared.clause.Header.{Header}
use Rattle.py_parser.specs.declared.clause.Header.TheVariants as header
use Rattle.py_parser.specs.declared.clause.Stage.{Stage}
use Rattle.py_parser.specs.declared.clause.Stage.TheVariants.{Branches, Loop, Tried, Handlers, LastHandler, Rest, Ended}
use Rattle.py_parser.specs.declared.clause.Parts.{Parts}

-- ---- the order of clauses

-- whether a clause of this word may come next
abbrev pub may_follow : Stage → Word → Bool
may_follow Branches word.Elif = true
may_follow Branches word.Else = true
may_follow Loop word.Else = true
may_follow Tried word.Except = true
may_follow Tried word.Finally = true
may_follow Handlers word.Except = true
may_follow Handlers word.Else = true
may_follow Handlers word.Finally = true
may_follow LastHandler word.Else = true
may_follow LastHandler word.Finally = true
may_follow Rest word.Finally = true
may_follow stage w = false

-- whether the statement may end: a `try` alone may not
abbrev pub may_end : Stage → Bool
may_end Tried = false
may_end stage = true

-- the stage behind the first clause
abbrev pub first_stage : Head → Stage
first_stage (head.If test) = Branches
first_stage (head.While test) = Loop
first_stage (head.For target over) = Loop
first_stage head.Try = Tried
first_stage (head.Def text params) = Ended

-- the stage behind an `else`: that of a `try` may have a `finally` behind it
abbrev pub behind_else : Stage → Stage
behind_else Handlers = Rest
behind_else LastHandler = Rest
behind_else stage = Ended

-- the stage behind an `except`: one without a test is the last
abbrev pub behind_except : Option Expr → Stage
behind_except (Some test) = Handlers
behind_except None = LastHandler

-- the stage behind a further clause
abbrev pub behind : Stage → Header → Stage
behind stage (header.Elif test) = Branches
behind stage header.Else = behind_else stage
behind stage (header.Except test text) = behind_except test
behind stage header.Finally = Ended

-- whether a compound statement begins so
abbrev pub begins_compound : Tok → Bool
begins_compound (tok.Word word.If) = true
begins_compound (tok.Word word.While) = true
begins_compound (tok.Word word.For) = true
begins_compound (tok.Word word.Try) = true
begins_compound (tok.Word word.Def) = true
begins_compound kind = false

-- whether a clause that begins so may come next
abbrev pub goes_on : Stage → Tok → Bool
goes_on stage (tok.Word w) = may_follow stage w
goes_on stage kind = false

-- ---- parameters

-- the names of parameters
abbrev pub param_names : List Param → List (List ℕ)
param_names [] = []
param_names (p ∷ ps) = p.name ∷ param_names ps

-- each parameter has a default
abbrev pub all_default : List Param → Bool
all_default params = list_all (λ param. is_some param.default) params

-- no parameter without a default stands behind one with a default
abbrev pub defaults_last : List Param → Bool
defaults_last [] = true
defaults_last (p ∷ ps) = if is_some p.default then all_default ps else defaults_last ps

-- no two names are equal
abbrev pub names_differ : List (List ℕ) → Bool
names_differ [] = true
names_differ (text ∷ texts) = is_new text texts && names_differ texts

-- the names of parameters differ, and those with defaults are the last
abbrev pub params_fit : List Param → Bool
params_fit params = names_differ (param_names params) && defaults_last params

-- ---- trees

-- a branch whose word stands in that line
abbrev pub branch_of : ℕ → Expr → List Stmt → Branch
branch_of line test body = roll-Branch (record { line = line; test = test; body = body })

-- an except clause whose word stands in that line
abbrev pub handler_of : ℕ → Option Expr → Option (List ℕ) → List Stmt → Handler
handler_of line test text body = roll-Handler (record { line = line; test = test; name = text; body = body })

-- no further clause
abbrev pub no_parts : Parts
no_parts = record { branches = []; handlers = []; rest = []; last = None }

-- with one clause more, whose word stands in that line
abbrev pub with_clause : ℕ → Header → List Stmt → Parts → Parts
with_clause line (header.Elif test) body parts = record parts { branches = parts.branches ++ branch_of line test body ∷ [] }
with_clause line header.Else body parts = record parts { rest = body }
with_clause line (header.Except test text) body parts = record parts { handlers = parts.handlers ++ handler_of line test text body ∷ [] }
with_clause line header.Finally body parts = record parts { last = Some body }

-- the statement whose first word stands in that line
abbrev pub kind_of : ℕ → Head → List Stmt → Parts → StmtKind
kind_of line (head.If test) body parts = s.If (branch_of line test body ∷ parts.branches) parts.rest
kind_of line (head.While test) body parts = s.While test body parts.rest
kind_of line (head.For target over) body parts = s.For target over body parts.rest
kind_of line head.Try body parts = s.Try body parts.handlers parts.rest parts.last
kind_of line (head.Def text params) body parts = s.Def text params body
