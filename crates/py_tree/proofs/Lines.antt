-- The lines of statements, by those of their parts.
use Rattle.std.proofs.Common.{◌≡◌, ℕ, List, [], ◌∷◌, ◌++◌, map, Option, Some, None, refl, sym, ap, ◌∙◌}
use Rattle.std.specs.List.{concat, flat_map}
use Rattle.py_tree.specs.declared.expr.BinaryOp.{BinaryOp}
use Rattle.py_tree.specs.declared.expr.Expr.{Expr}
use Rattle.py_tree.specs.declared.stmt.Alias.{Alias}
use Rattle.py_tree.specs.declared.stmt.Param.{Param}
use Rattle.py_tree.specs.declared.stmt.Branch.{Branch, roll-Branch}
use Rattle.py_tree.specs.declared.stmt.Handler.{Handler, roll-Handler}
use Rattle.py_tree.specs.declared.stmt.Stmt.{Stmt, roll-Stmt}
use Rattle.py_tree.specs.declared.stmt.StmtKind.{StmtKind, roll-StmtKind}
use Rattle.py_tree.specs.declared.stmt.StmtKind.TheOpen.{StmtKind-F}
use Rattle.py_tree.specs.declared.stmt.StmtKind.TheVariants as s
use Rattle.py_tree.specs.declared.stmt.StmtKind.TheFolds.{fold-roll-StmtKind, fold-roll-Branch, fold-roll-Handler, fold-roll-Stmt}
use Rattle.py_tree.specs.declared.stmt.Target.{Target}
use Rattle.py_tree.specs.Formed.{Lines, kind_lines, branch_lines, handler_lines, own_lines, kind_rows, branch_rows, handler_rows, stmt_lines}

all_rows : {A : Type 0} (rows : A → List ℕ) (xs : List A) → concat (map rows xs) ≡ flat_map rows xs
all_rows rows [] = refl
all_rows rows (x ∷ xs) = ap (λ q. rows x ++ q) (all_rows rows xs)

abbrev pub option_rows : Option (List Stmt) → List ℕ
option_rows None = []
option_rows (Some body) = flat_map stmt_lines body

rows_is : (kind : StmtKind) (l : StmtKind-F StmtKind Branch Handler Stmt) → roll-StmtKind l ≡ kind → kind_rows kind ≡ kind_rows (roll-StmtKind l)
rows_is kind l e = ap kind_rows (sym e)

pub lines_stmt : (line : ℕ) (kind : StmtKind) → stmt_lines (roll-Stmt (record { line = line; kind = kind })) ≡ line ∷ kind_rows kind
lines_stmt line kind = fold-roll-Stmt Lines Lines Lines Lines kind_lines branch_lines handler_lines own_lines (record { line = line; kind = kind })

pub lines_branch : (line : ℕ) (test : Expr) (body : List Stmt) → branch_rows (roll-Branch (record { line = line; test = test; body = body })) ≡ line ∷ flat_map stmt_lines body
lines_branch line test body =
    fold-roll-Branch Lines Lines Lines Lines kind_lines branch_lines handler_lines own_lines (record { line = line; test = test; body = body }) ∙ ap (λ q. line ∷ q) (all_rows stmt_lines body)

pub lines_handler : (line : ℕ) (test : Option Expr) (text : Option (List ℕ)) (body : List Stmt) → handler_rows (roll-Handler (record { line = line; test = test; name = text; body = body })) ≡ line ∷ flat_map stmt_lines body
lines_handler line test text body =
    fold-roll-Handler Lines Lines Lines Lines kind_lines branch_lines handler_lines own_lines (record { line = line; test = test; name = text; body = body }) ∙ ap (λ q. line ∷ q) (all_rows stmt_lines body)

-- ---- a small statement has no line but its own

pub lines_Expr : (x : Expr) → kind_rows (s.Expr x) ≡ []
lines_Expr x = rows_is (s.Expr x) (StmtKind-F.Expr x) (s.rolls-Expr x) ∙ fold-roll-StmtKind Lines Lines Lines Lines kind_lines branch_lines handler_lines own_lines (StmtKind-F.Expr x)

pub lines_Assign : (ts : List Target) (x : Expr) → kind_rows (s.Assign ts x) ≡ []
lines_Assign ts x = rows_is (s.Assign ts x) (StmtKind-F.Assign ts x) (s.rolls-Assign ts x) ∙ fold-roll-StmtKind Lines Lines Lines Lines kind_lines branch_lines handler_lines own_lines (StmtKind-F.Assign ts x)

pub lines_Aug : (t : Target) (how : BinaryOp) (x : Expr) → kind_rows (s.Aug t how x) ≡ []
lines_Aug t how x = rows_is (s.Aug t how x) (StmtKind-F.Aug t how x) (s.rolls-Aug t how x) ∙ fold-roll-StmtKind Lines Lines Lines Lines kind_lines branch_lines handler_lines own_lines (StmtKind-F.Aug t how x)

pub lines_Del : (ts : List Target) → kind_rows (s.Del ts) ≡ []
lines_Del ts = rows_is (s.Del ts) (StmtKind-F.Del ts) (s.rolls-Del ts) ∙ fold-roll-StmtKind Lines Lines Lines Lines kind_lines branch_lines handler_lines own_lines (StmtKind-F.Del ts)

pub lines_Pass : kind_rows s.Pass ≡ []
lines_Pass = rows_is s.Pass StmtKind-F.Pass s.rolls-Pass ∙ fold-roll-StmtKind Lines Lines Lines Lines kind_lines branch_lines handler_lines own_lines StmtKind-F.Pass

pub lines_Break : kind_rows s.Break ≡ []
lines_Break = rows_is s.Break StmtKind-F.Break s.rolls-Break ∙ fold-roll-StmtKind Lines Lines Lines Lines kind_lines branch_lines handler_lines own_lines StmtKind-F.Break

pub lines_Continue : kind_rows s.Continue ≡ []
lines_Continue = rows_is s.Continue StmtKind-F.Continue s.rolls-Continue ∙ fold-roll-StmtKind Lines Lines Lines Lines kind_lines branch_lines handler_lines own_lines StmtKind-F.Continue

pub lines_Return : (o : Option Expr) → kind_rows (s.Return o) ≡ []
lines_Return o = rows_is (s.Return o) (StmtKind-F.Return o) (s.rolls-Return o) ∙ fold-roll-StmtKind Lines Lines Lines Lines kind_lines branch_lines handler_lines own_lines (StmtKind-F.Return o)

pub lines_Raise : (o : Option Expr) → kind_rows (s.Raise o) ≡ []
lines_Raise o = rows_is (s.Raise o) (StmtKind-F.Raise o) (s.rolls-Raise o) ∙ fold-roll-StmtKind Lines Lines Lines Lines kind_lines branch_lines handler_lines own_lines (StmtKind-F.Raise o)

pub lines_Global : (names : List (List ℕ)) → kind_rows (s.Global names) ≡ []
lines_Global names = rows_is (s.Global names) (StmtKind-F.Global names) (s.rolls-Global names) ∙ fold-roll-StmtKind Lines Lines Lines Lines kind_lines branch_lines handler_lines own_lines (StmtKind-F.Global names)

pub lines_Import : (names : List Alias) → kind_rows (s.Import names) ≡ []
lines_Import names = rows_is (s.Import names) (StmtKind-F.Import names) (s.rolls-Import names) ∙ fold-roll-StmtKind Lines Lines Lines Lines kind_lines branch_lines handler_lines own_lines (StmtKind-F.Import names)

pub lines_From : (path : List ℕ) (names : List Alias) → kind_rows (s.From path names) ≡ []
lines_From path names = rows_is (s.From path names) (StmtKind-F.From path names) (s.rolls-From path names) ∙ fold-roll-StmtKind Lines Lines Lines Lines kind_lines branch_lines handler_lines own_lines (StmtKind-F.From path names)

pub lines_Assert : (x : Expr) (o : Option Expr) → kind_rows (s.Assert x o) ≡ []
lines_Assert x o = rows_is (s.Assert x o) (StmtKind-F.Assert x o) (s.rolls-Assert x o) ∙ fold-roll-StmtKind Lines Lines Lines Lines kind_lines branch_lines handler_lines own_lines (StmtKind-F.Assert x o)

-- ---- compound statements

pub lines_If : (branches : List Branch) (rest : List Stmt) → kind_rows (s.If branches rest) ≡ flat_map branch_rows branches ++ flat_map stmt_lines rest
lines_If branches rest =
    rows_is (s.If branches rest) (StmtKind-F.If branches rest) (s.rolls-If branches rest) ∙ fold-roll-StmtKind Lines Lines Lines Lines kind_lines branch_lines handler_lines own_lines (StmtKind-F.If branches rest)
    ∙ ap (λ q. q ++ concat (map stmt_lines rest)) (all_rows branch_rows branches) ∙ ap (λ q. flat_map branch_rows branches ++ q) (all_rows stmt_lines rest)

pub lines_While : (x : Expr) (body rest : List Stmt) → kind_rows (s.While x body rest) ≡ flat_map stmt_lines body ++ flat_map stmt_lines rest
lines_While x body rest =
    rows_is (s.While x body rest) (StmtKind-F.While x body rest) (s.rolls-While x body rest) ∙ fold-roll-StmtKind Lines Lines Lines Lines kind_lines branch_lines handler_lines own_lines (StmtKind-F.While x body rest) ∙ ap (λ q. q ++ concat (map stmt_lines rest)) (all_rows stmt_lines body) ∙ ap (λ q. flat_map stmt_lines body ++ q) (all_rows stmt_lines rest)

pub lines_For : (t : Target) (x : Expr) (body rest : List Stmt) → kind_rows (s.For t x body rest) ≡ flat_map stmt_lines body ++ flat_map stmt_lines rest
lines_For t x body rest =
    rows_is (s.For t x body rest) (StmtKind-F.For t x body rest) (s.rolls-For t x body rest) ∙ fold-roll-StmtKind Lines Lines Lines Lines kind_lines branch_lines handler_lines own_lines (StmtKind-F.For t x body rest) ∙ ap (λ q. q ++ concat (map stmt_lines rest)) (all_rows stmt_lines body) ∙ ap (λ q. flat_map stmt_lines body ++ q) (all_rows stmt_lines rest)

pub lines_Def : (text : List ℕ) (params : List Param) (body : List Stmt) → kind_rows (s.Def text params body) ≡ flat_map stmt_lines body
lines_Def text params body = rows_is (s.Def text params body) (StmtKind-F.Def text params body) (s.rolls-Def text params body) ∙ fold-roll-StmtKind Lines Lines Lines Lines kind_lines branch_lines handler_lines own_lines (StmtKind-F.Def text params body) ∙ all_rows stmt_lines body

pub lines_Try : (body : List Stmt) (handlers : List Handler) (rest : List Stmt) (last : Option (List Stmt))
    → kind_rows (s.Try body handlers rest last) ≡ flat_map stmt_lines body ++ (flat_map handler_rows handlers ++ (flat_map stmt_lines rest ++ option_rows last))
lines_Try body handlers rest None =
    rows_is (s.Try body handlers rest None) (StmtKind-F.Try body handlers rest None) (s.rolls-Try body handlers rest None) ∙ fold-roll-StmtKind Lines Lines Lines Lines kind_lines branch_lines handler_lines own_lines (StmtKind-F.Try body handlers rest None)
    ∙ ap (λ q. q ++ (concat (map handler_rows handlers) ++ (concat (map stmt_lines rest) ++ []))) (all_rows stmt_lines body) ∙ ap (λ q. flat_map stmt_lines body ++ (q ++ (concat (map stmt_lines rest) ++ []))) (all_rows handler_rows handlers)
    ∙ ap (λ q. flat_map stmt_lines body ++ (flat_map handler_rows handlers ++ (q ++ []))) (all_rows stmt_lines rest)
lines_Try body handlers rest (Some last) =
    rows_is (s.Try body handlers rest (Some last)) (StmtKind-F.Try body handlers rest (Some last)) (s.rolls-Try body handlers rest (Some last)) ∙ fold-roll-StmtKind Lines Lines Lines Lines kind_lines branch_lines handler_lines own_lines (StmtKind-F.Try body handlers rest (Some last))
    ∙ ap (λ q. q ++ (concat (map handler_rows handlers) ++ (concat (map stmt_lines rest) ++ concat (map stmt_lines last)))) (all_rows stmt_lines body)
    ∙ ap (λ q. flat_map stmt_lines body ++ (q ++ (concat (map stmt_lines rest) ++ concat (map stmt_lines last)))) (all_rows handler_rows handlers)
    ∙ ap (λ q. flat_map stmt_lines body ++ (flat_map handler_rows handlers ++ (q ++ concat (map stmt_lines last)))) (all_rows stmt_lines rest)
    ∙ ap (λ q. flat_map stmt_lines body ++ (flat_map handler_rows handlers ++ (flat_map stmt_lines rest ++ q))) (all_rows stmt_lines last)
