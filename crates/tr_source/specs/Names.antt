-- Names without a dot, among tokens and among what a tree takes from modules.
use Rattle.std.specs.Prelude.{◌≡◌, ℕ, Bool, true, not, ◌&&◌, List, Option, Some, None, nat_eq}
use Rattle.std.specs.List.{list_all}
use Rattle.py_source.specs.py_tokens.declared.token.Tok.{Tok}
use Rattle.py_source.specs.py_tokens.declared.token.Tok.TheVariants as toks
use Rattle.py_source.specs.py_tokens.declared.token.Token.{Token}
use Rattle.py_meaning.specs.py_tree.declared.stmt.Alias.{Alias}
use Rattle.py_meaning.specs.py_tree.declared.stmt.Branch.{Branch}
use Rattle.py_meaning.specs.py_tree.declared.stmt.Handler.{Handler}
use Rattle.py_meaning.specs.py_tree.declared.stmt.Module.{Module}
use Rattle.py_meaning.specs.py_tree.declared.stmt.Stmt.{Stmt}
use Rattle.py_meaning.specs.py_tree.declared.stmt.StmtKind.{StmtKind}
use Rattle.py_meaning.specs.py_tree.declared.stmt.StmtKind.TheOpen.{StmtKind-F, Stmt-F, Branch-F, Handler-F}
use Rattle.py_meaning.specs.py_tree.declared.stmt.StmtKind.TheFolds.{fold-StmtKind, fold-Branch, fold-Handler, fold-Stmt}

-- no byte of the name is a dot, 46
abbrev pub is_undotted : List ℕ → Bool
is_undotted name = list_all (λ byte. not (nat_eq byte 46)) name

-- ---- tokens

-- a token, if it is a name, has no dot
abbrev pub token_undotted : Tok → Bool
token_undotted (toks.Name text) = is_undotted text
token_undotted (toks.Int n) = true
token_undotted (toks.Str text) = true
token_undotted (toks.Word word) = true
token_undotted (toks.Op op) = true
token_undotted toks.Newline = true
token_undotted toks.Indent = true
token_undotted toks.Dedent = true
token_undotted toks.End = true

-- no name among the tokens has a dot
abbrev pub tokens_undotted : List Token → Bool
tokens_undotted tokens = list_all (λ (token : Token). token_undotted token.kind) tokens

-- ---- trees

-- no name that is taken from a module has a dot
abbrev pub names_undotted : List Alias → Bool
names_undotted names = list_all (λ (alias : Alias). is_undotted alias.name) names

-- it holds of all parts
abbrev pub all_hold : List Bool → Bool
all_hold parts = list_all (λ part. part) parts

-- it holds of the parts, if there are any
abbrev pub optional_hold : Option (List Bool) → Bool
optional_hold None = true
optional_hold (Some parts) = all_hold parts

-- whether each name that a statement takes by `from` is undotted, where it is so in its parts
abbrev pub kind_step : StmtKind-F Bool Bool Bool Bool → Bool
kind_step (StmtKind-F.Expr value) = true
kind_step (StmtKind-F.Assign targets value) = true
kind_step (StmtKind-F.Aug target op value) = true
kind_step (StmtKind-F.Del targets) = true
kind_step StmtKind-F.Pass = true
kind_step StmtKind-F.Break = true
kind_step StmtKind-F.Continue = true
kind_step (StmtKind-F.Return value) = true
kind_step (StmtKind-F.Raise value) = true
kind_step (StmtKind-F.Global names) = true
-- what `import` names may be dotted
kind_step (StmtKind-F.Import names) = true
kind_step (StmtKind-F.From path names) = names_undotted names
kind_step (StmtKind-F.Assert test message) = true
kind_step (StmtKind-F.If branches rest) = all_hold branches && all_hold rest
kind_step (StmtKind-F.While test inner rest) = all_hold inner && all_hold rest
kind_step (StmtKind-F.For target over inner rest) = all_hold inner && all_hold rest
kind_step (StmtKind-F.Try inner handlers rest last) = all_hold inner && (all_hold handlers && (all_hold rest && optional_hold last))
kind_step (StmtKind-F.Def name params inner) = all_hold inner

-- a branch, by its body
abbrev pub branch_step : Branch-F Bool Bool Bool Bool → Bool
branch_step branch = all_hold branch.body

-- an except clause, by its body
abbrev pub handler_step : Handler-F Bool Bool Bool Bool → Bool
handler_step handler = all_hold handler.body

-- a statement with its line
abbrev pub stmt_step : Stmt-F Bool Bool Bool Bool → Bool
stmt_step stmt = stmt.kind

-- a statement takes no name with a dot, nor does one in it
abbrev pub kind_undotted : StmtKind → Bool
kind_undotted = fold-StmtKind Bool Bool Bool Bool kind_step branch_step handler_step stmt_step

-- no statement of a branch takes a name with a dot
abbrev pub branch_undotted : Branch → Bool
branch_undotted = fold-Branch Bool Bool Bool Bool kind_step branch_step handler_step stmt_step

-- no statement of an except clause takes a name with a dot
abbrev pub handler_undotted : Handler → Bool
handler_undotted = fold-Handler Bool Bool Bool Bool kind_step branch_step handler_step stmt_step

-- a statement with its line takes no name with a dot
abbrev pub stmt_undotted : Stmt → Bool
stmt_undotted = fold-Stmt Bool Bool Bool Bool kind_step branch_step handler_step stmt_step

-- no name that the tree takes by `from`, in any block and any function, has a dot
abbrev pub TakesUndotted : Module → Type 0
TakesUndotted tree = list_all stmt_undotted tree.body ≡ true
