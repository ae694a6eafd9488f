-- What a statement takes, by its parts.
use Rattle.std.proofs.Common.{◌≡◌, ℕ, Bool, true, ◌&&◌, List, map, Option, Some, None, refl, sym, ap, ◌∙◌}
use Rattle.std.specs.List.{list_all}
use Rattle.std.proofs.lemmas.List.Folds.{list_all-map}
use Rattle.py_meaning.specs.py_tree.declared.expr.BinaryOp.{BinaryOp}
use Rattle.py_meaning.specs.py_tree.declared.expr.Expr.{Expr}
use Rattle.py_meaning.specs.py_tree.declared.stmt.Alias.{Alias}
use Rattle.py_meaning.specs.py_tree.declared.stmt.Param.{Param}
use Rattle.py_meaning.specs.py_tree.declared.stmt.Branch.{Branch, roll-Branch}
use Rattle.py_meaning.specs.py_tree.declared.stmt.Handler.{Handler, roll-Handler}
use Rattle.py_meaning.specs.py_tree.declared.stmt.Stmt.{Stmt, roll-Stmt}
use Rattle.py_meaning.specs.py_tree.declared.stmt.StmtKind.{StmtKind, roll-StmtKind}
use Rattle.py_meaning.specs.py_tree.declared.stmt.StmtKind.TheOpen.{StmtKind-F}
use Rattle.py_meaning.specs.py_tree.declared.stmt.StmtKind.TheVariants as s
use Rattle.py_meaning.specs.py_tree.declared.stmt.StmtKind.TheFolds.{fold-roll-StmtKind, fold-roll-Branch, fold-roll-Handler, fold-roll-Stmt}
use Rattle.py_meaning.specs.py_tree.declared.stmt.Target.{Target}
use Rattle.tr_source.specs.Names.{all_hold, names_undotted, kind_step, branch_step, handler_step, stmt_step, kind_undotted, branch_undotted, handler_undotted, stmt_undotted}

abbrev pub block_undotted : List Stmt → Bool
block_undotted body = list_all stmt_undotted body

abbrev pub option_undotted : Option (List Stmt) → Bool
option_undotted None = true
option_undotted (Some body) = block_undotted body

all_is : (body : List Stmt) → all_hold (map stmt_undotted body) ≡ block_undotted body
all_is body = list_all-map (λ b. b) stmt_undotted body

pub of_stmt : (line : ℕ) (kind : StmtKind) → stmt_undotted (roll-Stmt (record { line = line; kind = kind })) ≡ kind_undotted kind
of_stmt line kind = fold-roll-Stmt Bool Bool Bool Bool kind_step branch_step handler_step stmt_step (record { line = line; kind = kind })

kind_is : (kind : StmtKind) (l : StmtKind-F StmtKind Branch Handler Stmt) → roll-StmtKind l ≡ kind → kind_undotted kind ≡ kind_undotted (roll-StmtKind l)
kind_is kind l e = ap kind_undotted (sym e)

-- ---- small statements

pub of_Expr : (x : Expr) → kind_undotted (s.Expr x) ≡ true
of_Expr x = kind_is (s.Expr x) (StmtKind-F.Expr x) (s.rolls-Expr x) ∙ fold-roll-StmtKind Bool Bool Bool Bool kind_step branch_step handler_step stmt_step (StmtKind-F.Expr x)

pub of_Assign : (ts : List Target) (x : Expr) → kind_undotted (s.Assign ts x) ≡ true
of_Assign ts x = kind_is (s.Assign ts x) (StmtKind-F.Assign ts x) (s.rolls-Assign ts x) ∙ fold-roll-StmtKind Bool Bool Bool Bool kind_step branch_step handler_step stmt_step (StmtKind-F.Assign ts x)

pub of_Aug : (t : Target) (how : BinaryOp) (x : Expr) → kind_undotted (s.Aug t how x) ≡ true
of_Aug t how x = kind_is (s.Aug t how x) (StmtKind-F.Aug t how x) (s.rolls-Aug t how x) ∙ fold-roll-StmtKind Bool Bool Bool Bool kind_step branch_step handler_step stmt_step (StmtKind-F.Aug t how x)

pub of_Del : (ts : List Target) → kind_undotted (s.Del ts) ≡ true
of_Del ts = kind_is (s.Del ts) (StmtKind-F.Del ts) (s.rolls-Del ts) ∙ fold-roll-StmtKind Bool Bool Bool Bool kind_step branch_step handler_step stmt_step (StmtKind-F.Del ts)

pub of_Pass : kind_undotted s.Pass ≡ true
of_Pass = kind_is s.Pass StmtKind-F.Pass s.rolls-Pass ∙ fold-roll-StmtKind Bool Bool Bool Bool kind_step branch_step handler_step stmt_step StmtKind-F.Pass

pub of_Break : kind_undotted s.Break ≡ true
of_Break = kind_is s.Break StmtKind-F.Break s.rolls-Break ∙ fold-roll-StmtKind Bool Bool Bool Bool kind_step branch_step handler_step stmt_step StmtKind-F.Break

pub of_Continue : kind_undotted s.Continue ≡ true
of_Continue = kind_is s.Continue StmtKind-F.Continue s.rolls-Continue ∙ fold-roll-StmtKind Bool Bool Bool Bool kind_step branch_step handler_step stmt_step StmtKind-F.Continue

pub of_Return : (o : Option Expr) → kind_undotted (s.Return o) ≡ true
of_Return o = kind_is (s.Return o) (StmtKind-F.Return o) (s.rolls-Return o) ∙ fold-roll-StmtKind Bool Bool Bool Bool kind_step branch_step handler_step stmt_step (StmtKind-F.Return o)

pub of_Raise : (o : Option Expr) → kind_undotted (s.Raise o) ≡ true
of_Raise o = kind_is (s.Raise o) (StmtKind-F.Raise o) (s.rolls-Raise o) ∙ fold-roll-StmtKind Bool Bool Bool Bool kind_step branch_step handler_step stmt_step (StmtKind-F.Raise o)

pub of_Global : (names : List (List ℕ)) → kind_undotted (s.Global names) ≡ true
of_Global names = kind_is (s.Global names) (StmtKind-F.Global names) (s.rolls-Global names) ∙ fold-roll-StmtKind Bool Bool Bool Bool kind_step branch_step handler_step stmt_step (StmtKind-F.Global names)

pub of_Import : (names : List Alias) → kind_undotted (s.Import names) ≡ true
of_Import names = kind_is (s.Import names) (StmtKind-F.Import names) (s.rolls-Import names) ∙ fold-roll-StmtKind Bool Bool Bool Bool kind_step branch_step handler_step stmt_step (StmtKind-F.Import names)

pub of_From : (path : List ℕ) (names : List Alias) → kind_undotted (s.From path names) ≡ names_undotted names
of_From path names = kind_is (s.From path names) (StmtKind-F.From path names) (s.rolls-From path names) ∙ fold-roll-StmtKind Bool Bool Bool Bool kind_step branch_step handler_step stmt_step (StmtKind-F.From path names)

pub of_Assert : (x : Expr) (o : Option Expr) → kind_undotted (s.Assert x o) ≡ true
of_Assert x o = kind_is (s.Assert x o) (StmtKind-F.Assert x o) (s.rolls-Assert x o) ∙ fold-roll-StmtKind Bool Bool Bool Bool kind_step branch_step handler_step stmt_step (StmtKind-F.Assert x o)

-- ---- compound statements

pub of_If : (bs : List Branch) (rest : List Stmt) → kind_undotted (s.If bs rest) ≡ (list_all branch_undotted bs && block_undotted rest)
of_If bs rest =
    kind_is (s.If bs rest) (StmtKind-F.If bs rest) (s.rolls-If bs rest) ∙ fold-roll-StmtKind Bool Bool Bool Bool kind_step branch_step handler_step stmt_step (StmtKind-F.If bs rest)
    ∙ ap (λ q. q && all_hold (map stmt_undotted rest)) (list_all-map (λ q. q) branch_undotted bs) ∙ ap (λ q. list_all branch_undotted bs && q) (all_is rest)

pub of_While : (x : Expr) (body rest : List Stmt) → kind_undotted (s.While x body rest) ≡ (block_undotted body && block_undotted rest)
of_While x body rest =
    kind_is (s.While x body rest) (StmtKind-F.While x body rest) (s.rolls-While x body rest) ∙ fold-roll-StmtKind Bool Bool Bool Bool kind_step branch_step handler_step stmt_step (StmtKind-F.While x body rest)
    ∙ ap (λ q. q && all_hold (map stmt_undotted rest)) (all_is body) ∙ ap (λ q. block_undotted body && q) (all_is rest)

pub of_For : (t : Target) (x : Expr) (body rest : List Stmt) → kind_undotted (s.For t x body rest) ≡ (block_undotted body && block_undotted rest)
of_For t x body rest =
    kind_is (s.For t x body rest) (StmtKind-F.For t x body rest) (s.rolls-For t x body rest) ∙ fold-roll-StmtKind Bool Bool Bool Bool kind_step branch_step handler_step stmt_step (StmtKind-F.For t x body rest)
    ∙ ap (λ q. q && all_hold (map stmt_undotted rest)) (all_is body) ∙ ap (λ q. block_undotted body && q) (all_is rest)

pub of_Def : (text : List ℕ) (params : List Param) (body : List Stmt) → kind_undotted (s.Def text params body) ≡ block_undotted body
of_Def text params body =
    kind_is (s.Def text params body) (StmtKind-F.Def text params body) (s.rolls-Def text params body) ∙ fold-roll-StmtKind Bool Bool Bool Bool kind_step branch_step handler_step stmt_step (StmtKind-F.Def text params body)
    ∙ all_is body

pub of_Try : (body : List Stmt) (handlers : List Handler) (rest : List Stmt) (last : Option (List Stmt))
    → kind_undotted (s.Try body handlers rest last) ≡ (block_undotted body && (list_all handler_undotted handlers && (block_undotted rest && option_undotted last)))
of_Try body handlers rest None =
    kind_is (s.Try body handlers rest None) (StmtKind-F.Try body handlers rest None) (s.rolls-Try body handlers rest None) ∙ fold-roll-StmtKind Bool Bool Bool Bool kind_step branch_step handler_step stmt_step (StmtKind-F.Try body handlers rest None)
    ∙ rw (all_is body, list_all-map (λ (q : Bool). q) handler_undotted handlers, all_is rest) refl
of_Try body handlers rest (Some last) =
    kind_is (s.Try body handlers rest (Some last)) (StmtKind-F.Try body handlers rest (Some last)) (s.rolls-Try body handlers rest (Some last)) ∙ fold-roll-StmtKind Bool Bool Bool Bool kind_step branch_step handler_step stmt_step (StmtKind-F.Try body handlers rest (Some last))
    ∙ rw (all_is body, list_all-map (λ (q : Bool). q) handler_undotted handlers, all_is rest, all_is last) refl

-- ---- branches and handlers

pub of_branch : (line : ℕ) (test : Expr) (body : List Stmt) → branch_undotted (roll-Branch (record { line = line; test = test; body = body })) ≡ block_undotted body
of_branch line test body = fold-roll-Branch Bool Bool Bool Bool kind_step branch_step handler_step stmt_step (record { line = line; test = test; body = body }) ∙ all_is body

pub of_handler : (line : ℕ) (test : Option Expr) (text : Option (List ℕ)) (body : List Stmt) → handler_undotted (roll-Handler (record { line = line; test = test; name = text; body = body })) ≡ block_undotted body
of_handler line test text body = fold-roll-Handler Bool Bool Bool Bool kind_step branch_step handler_step stmt_step (record { line = line; test = test; name = text; body = body }) ∙ all_is body
