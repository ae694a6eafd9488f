-- How many functions statements hold, by those of their parts.
use Rattle.std.proofs.Common.{◌≡◌, ℕ, ◌+◌, List, ◌∷◌, ◌++◌, map, Option, Some, None, sym, ap, ◌∙◌, arith}
use Rattle.std.specs.List.{sum}
use Rattle.std.proofs.lemmas.List.Sums.{sum-map, sum_by-cons, sum_by-append}
use Rattle.py_tree.specs.declared.expr.BinaryOp.{BinaryOp}
use Rattle.py_tree.specs.declared.expr.Expr.{Expr}
use Rattle.py_tree.specs.declared.stmt.Alias.{Alias}
use Rattle.py_tree.specs.declared.stmt.Param.{Param}
use Rattle.py_tree.specs.declared.stmt.Branch.{Branch, roll-Branch}
use Rattle.py_tree.specs.declared.stmt.Handler.{Handler, roll-Handler}
use Rattle.py_tree.specs.declared.stmt.Stmt.{Stmt, roll-Stmt}
use Rattle.py_tree.specs.declared.stmt.StmtKind.{StmtKind, roll-StmtKind}
use Rattle.py_tree.specs.declared.stmt.StmtKind.TheOpen.{StmtKind-F}
use Rattle.py_tree.specs.declared.stmt.StmtKind.TheVariants as s
use Rattle.py_tree.specs.declared.stmt.StmtKind.TheFolds.{fold-roll-StmtKind, fold-roll-Branch, fold-roll-Handler, fold-roll-Stmt}
use Rattle.py_tree.specs.declared.stmt.Target.{Target}
use Rattle.py_tree.specs.Formed.{kind_defs, branch_defs, handler_defs, own_defs, kind_count, branch_count, handler_count, stmt_defs}

-- ---- sums

pub sum_cons : {A : Type 0} (f : A → ℕ) (x : A) (xs : List A) → sum (map f (x ∷ xs)) ≡ f x + sum (map f xs)
sum_cons f x xs = sum-map f (x ∷ xs) ∙ sum_by-cons f x xs ∙ ap (λ q. f x + q) (sym (sum-map f xs))

pub sum_joined : {A : Type 0} (f : A → ℕ) (xs ys : List A) → sum (map f (xs ++ ys)) ≡ sum (map f xs) + sum (map f ys)
sum_joined f xs ys = let a = sum-map f (xs ++ ys) in let b = sum_by-append f xs ys in let c = sum-map f xs in let d = sum-map f ys in omega arith

-- ---- statements

abbrev pub block_count : List Stmt → ℕ
block_count body = sum (map stmt_defs body)

abbrev pub option_count : Option (List Stmt) → ℕ
option_count None = 0
option_count (Some body) = block_count body

count_is : (kind : StmtKind) (l : StmtKind-F StmtKind Branch Handler Stmt) → roll-StmtKind l ≡ kind → kind_count kind ≡ kind_count (roll-StmtKind l)
count_is kind l e = ap kind_count (sym e)

pub defs_stmt : (line : ℕ) (kind : StmtKind) → stmt_defs (roll-Stmt (record { line = line; kind = kind })) ≡ kind_count kind
defs_stmt line kind = fold-roll-Stmt ℕ ℕ ℕ ℕ kind_defs branch_defs handler_defs own_defs (record { line = line; kind = kind })

pub defs_branch : (line : ℕ) (test : Expr) (body : List Stmt) → branch_count (roll-Branch (record { line = line; test = test; body = body })) ≡ block_count body
defs_branch line test body = fold-roll-Branch ℕ ℕ ℕ ℕ kind_defs branch_defs handler_defs own_defs (record { line = line; test = test; body = body })

pub defs_handler : (line : ℕ) (test : Option Expr) (text : Option (List ℕ)) (body : List Stmt) → handler_count (roll-Handler (record { line = line; test = test; name = text; body = body })) ≡ block_count body
defs_handler line test text body = fold-roll-Handler ℕ ℕ ℕ ℕ kind_defs branch_defs handler_defs own_defs (record { line = line; test = test; name = text; body = body })

-- ---- a small statement holds none

pub defs_Expr : (x : Expr) → kind_count (s.Expr x) ≡ 0
defs_Expr x = count_is (s.Expr x) (StmtKind-F.Expr x) (s.rolls-Expr x) ∙ fold-roll-StmtKind ℕ ℕ ℕ ℕ kind_defs branch_defs handler_defs own_defs (StmtKind-F.Expr x)

pub defs_Assign : (ts : List Target) (x : Expr) → kind_count (s.Assign ts x) ≡ 0
defs_Assign ts x = count_is (s.Assign ts x) (StmtKind-F.Assign ts x) (s.rolls-Assign ts x) ∙ fold-roll-StmtKind ℕ ℕ ℕ ℕ kind_defs branch_defs handler_defs own_defs (StmtKind-F.Assign ts x)

pub defs_Aug : (t : Target) (how : BinaryOp) (x : Expr) → kind_count (s.Aug t how x) ≡ 0
defs_Aug t how x = count_is (s.Aug t how x) (StmtKind-F.Aug t how x) (s.rolls-Aug t how x) ∙ fold-roll-StmtKind ℕ ℕ ℕ ℕ kind_defs branch_defs handler_defs own_defs (StmtKind-F.Aug t how x)

pub defs_Del : (ts : List Target) → kind_count (s.Del ts) ≡ 0
defs_Del ts = count_is (s.Del ts) (StmtKind-F.Del ts) (s.rolls-Del ts) ∙ fold-roll-StmtKind ℕ ℕ ℕ ℕ kind_defs branch_defs handler_defs own_defs (StmtKind-F.Del ts)

pub defs_Pass : kind_count s.Pass ≡ 0
defs_Pass = count_is s.Pass StmtKind-F.Pass s.rolls-Pass ∙ fold-roll-StmtKind ℕ ℕ ℕ ℕ kind_defs branch_defs handler_defs own_defs StmtKind-F.Pass

pub defs_Break : kind_count s.Break ≡ 0
defs_Break = count_is s.Break StmtKind-F.Break s.rolls-Break ∙ fold-roll-StmtKind ℕ ℕ ℕ ℕ kind_defs branch_defs handler_defs own_defs StmtKind-F.Break

pub defs_Continue : kind_count s.Continue ≡ 0
defs_Continue = count_is s.Continue StmtKind-F.Continue s.rolls-Continue ∙ fold-roll-StmtKind ℕ ℕ ℕ ℕ kind_defs branch_defs handler_defs own_defs StmtKind-F.Continue

pub defs_Return : (o : Option Expr) → kind_count (s.Return o) ≡ 0
defs_Return o = count_is (s.Return o) (StmtKind-F.Return o) (s.rolls-Return o) ∙ fold-roll-StmtKind ℕ ℕ ℕ ℕ kind_defs branch_defs handler_defs own_defs (StmtKind-F.Return o)

pub defs_Raise : (o : Option Expr) → kind_count (s.Raise o) ≡ 0
defs_Raise o = count_is (s.Raise o) (StmtKind-F.Raise o) (s.rolls-Raise o) ∙ fold-roll-StmtKind ℕ ℕ ℕ ℕ kind_defs branch_defs handler_defs own_defs (StmtKind-F.Raise o)

pub defs_Global : (names : List (List ℕ)) → kind_count (s.Global names) ≡ 0
defs_Global names = count_is (s.Global names) (StmtKind-F.Global names) (s.rolls-Global names) ∙ fold-roll-StmtKind ℕ ℕ ℕ ℕ kind_defs branch_defs handler_defs own_defs (StmtKind-F.Global names)

pub defs_Import : (names : List Alias) → kind_count (s.Import names) ≡ 0
defs_Import names = count_is (s.Import names) (StmtKind-F.Import names) (s.rolls-Import names) ∙ fold-roll-StmtKind ℕ ℕ ℕ ℕ kind_defs branch_defs handler_defs own_defs (StmtKind-F.Import names)

pub defs_From : (path : List ℕ) (names : List Alias) → kind_count (s.From path names) ≡ 0
defs_From path names = count_is (s.From path names) (StmtKind-F.From path names) (s.rolls-From path names) ∙ fold-roll-StmtKind ℕ ℕ ℕ ℕ kind_defs branch_defs handler_defs own_defs (StmtKind-F.From path names)

pub defs_Assert : (x : Expr) (o : Option Expr) → kind_count (s.Assert x o) ≡ 0
defs_Assert x o = count_is (s.Assert x o) (StmtKind-F.Assert x o) (s.rolls-Assert x o) ∙ fold-roll-StmtKind ℕ ℕ ℕ ℕ kind_defs branch_defs handler_defs own_defs (StmtKind-F.Assert x o)

-- ---- compound statements

pub defs_If : (branches : List Branch) (rest : List Stmt) → kind_count (s.If branches rest) ≡ sum (map branch_count branches) + block_count rest
defs_If branches rest = count_is (s.If branches rest) (StmtKind-F.If branches rest) (s.rolls-If branches rest) ∙ fold-roll-StmtKind ℕ ℕ ℕ ℕ kind_defs branch_defs handler_defs own_defs (StmtKind-F.If branches rest)

pub defs_While : (x : Expr) (body rest : List Stmt) → kind_count (s.While x body rest) ≡ block_count body + block_count rest
defs_While x body rest = count_is (s.While x body rest) (StmtKind-F.While x body rest) (s.rolls-While x body rest) ∙ fold-roll-StmtKind ℕ ℕ ℕ ℕ kind_defs branch_defs handler_defs own_defs (StmtKind-F.While x body rest)

pub defs_For : (t : Target) (x : Expr) (body rest : List Stmt) → kind_count (s.For t x body rest) ≡ block_count body + block_count rest
defs_For t x body rest = count_is (s.For t x body rest) (StmtKind-F.For t x body rest) (s.rolls-For t x body rest) ∙ fold-roll-StmtKind ℕ ℕ ℕ ℕ kind_defs branch_defs handler_defs own_defs (StmtKind-F.For t x body rest)

pub defs_Def : (text : List ℕ) (params : List Param) (body : List Stmt) → kind_count (s.Def text params body) ≡ block_count body + 1
defs_Def text params body = count_is (s.Def text params body) (StmtKind-F.Def text params body) (s.rolls-Def text params body) ∙ fold-roll-StmtKind ℕ ℕ ℕ ℕ kind_defs branch_defs handler_defs own_defs (StmtKind-F.Def text params body)

pub defs_Try : (body : List Stmt) (handlers : List Handler) (rest : List Stmt) (last : Option (List Stmt)) → kind_count (s.Try body handlers rest last) ≡ block_count body + (sum (map handler_count handlers) + (block_count rest + option_count last))
defs_Try body handlers rest None =
    count_is (s.Try body handlers rest None) (StmtKind-F.Try body handlers rest None) (s.rolls-Try body handlers rest None) ∙ fold-roll-StmtKind ℕ ℕ ℕ ℕ kind_defs branch_defs handler_defs own_defs (StmtKind-F.Try body handlers rest None)
defs_Try body handlers rest (Some last) =
    count_is (s.Try body handlers rest (Some last)) (StmtKind-F.Try body handlers rest (Some last)) (s.rolls-Try body handlers rest (Some last)) ∙ fold-roll-StmtKind ℕ ℕ ℕ ℕ kind_defs branch_defs handler_defs own_defs (StmtKind-F.Try body handlers rest (Some last))
