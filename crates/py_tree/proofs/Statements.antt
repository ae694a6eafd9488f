-- When a statement is formed, by its parts.
use Rattle.std.proofs.Common.{◌≡◌, ℕ, Bool, true, not, ◌&&◌, ◌||◌, List, [], ◌∷◌, map, Option, Some, None, is_some, refl, sym, ap, ◌∙◌}
use Rattle.std.specs.List.{list_all}
use Rattle.std.proofs.lemmas.List.Folds.{list_all-map}
use Rattle.py_tree.specs.declared.expr.BinaryOp.{BinaryOp}
use Rattle.py_tree.specs.declared.expr.Expr.{Expr}
use Rattle.py_tree.specs.declared.stmt.Alias.{Alias}
use Rattle.py_tree.specs.declared.stmt.Param.{Param}
use Rattle.py_tree.specs.declared.stmt.Branch.{Branch, roll-Branch}
use Rattle.py_tree.specs.declared.stmt.Handler.{Handler, roll-Handler}
use Rattle.py_tree.specs.declared.stmt.Stmt.{Stmt, roll-Stmt}
use Rattle.py_tree.specs.declared.stmt.StmtKind.{StmtKind, roll-StmtKind}
use Rattle.py_tree.specs.declared.stmt.StmtKind.TheOpen.{StmtKind-F}
use Rattle.py_tree.specs.declared.stmt.StmtKind.TheVariants as s
use Rattle.py_tree.specs.declared.stmt.StmtKind.TheFolds.{fold-roll-StmtKind, fold-roll-Branch, fold-roll-Handler, fold-roll-Stmt}
use Rattle.py_tree.specs.declared.stmt.Target.{Target, out-Target}
use Rattle.py_tree.specs.Formed.{has_one, is_ascii, expr_formed, target_formed, is_single, is_gone, option_formed, option_ascii, alias_formed, params_formed, Handled, tests_first, body_formed, kind_step, branch_step, handler_step, stmt_step, kind_formed, branch_formed, handled, stmt_formed}

-- ---- bodies

pub has_one_map : {A B : Type 0} (f : A → B) (xs : List A) → has_one (map f xs) ≡ has_one xs
has_one_map f [] = refl
has_one_map f (x ∷ xs) = refl

abbrev pub block_formed : List Stmt → Bool
block_formed body = has_one body && list_all stmt_formed body

abbrev pub option_block : Option (List Stmt) → Bool
option_block None = true
option_block (Some body) = block_formed body

all_is : (body : List Stmt) → list_all (λ stmt. stmt) (map stmt_formed body) ≡ list_all stmt_formed body
all_is body = list_all-map (λ b. b) stmt_formed body

block_is : (body : List Stmt) → body_formed (map stmt_formed body) ≡ block_formed body
block_is [] = refl
block_is (x ∷ xs) = all_is (x ∷ xs)

-- ---- statements

pub formed_stmt : (line : ℕ) (kind : StmtKind) → stmt_formed (roll-Stmt (record { line = line; kind = kind })) ≡ kind_formed kind
formed_stmt line kind = fold-roll-Stmt Bool Bool Handled Bool kind_step branch_step handler_step stmt_step (record { line = line; kind = kind })

kind_is : (kind : StmtKind) (l : StmtKind-F StmtKind Branch Handler Stmt) → roll-StmtKind l ≡ kind → kind_formed kind ≡ kind_formed (roll-StmtKind l)
kind_is kind l e = ap kind_formed (sym e)

pub formed_Expr : (x : Expr) → kind_formed (s.Expr x) ≡ expr_formed x
formed_Expr x = kind_is (s.Expr x) (StmtKind-F.Expr x) (s.rolls-Expr x) ∙ fold-roll-StmtKind Bool Bool Handled Bool kind_step branch_step handler_step stmt_step (StmtKind-F.Expr x)

pub formed_Assign : (ts : List Target) (x : Expr) → kind_formed (s.Assign ts x) ≡ (has_one ts && (list_all target_formed ts && expr_formed x))
formed_Assign ts x = kind_is (s.Assign ts x) (StmtKind-F.Assign ts x) (s.rolls-Assign ts x) ∙ fold-roll-StmtKind Bool Bool Handled Bool kind_step branch_step handler_step stmt_step (StmtKind-F.Assign ts x)

pub formed_Aug : (t : Target) (how : BinaryOp) (x : Expr) → kind_formed (s.Aug t how x) ≡ (is_single (out-Target t) && (target_formed t && expr_formed x))
formed_Aug t how x = kind_is (s.Aug t how x) (StmtKind-F.Aug t how x) (s.rolls-Aug t how x) ∙ fold-roll-StmtKind Bool Bool Handled Bool kind_step branch_step handler_step stmt_step (StmtKind-F.Aug t how x)

pub formed_Del : (ts : List Target) → kind_formed (s.Del ts) ≡ (has_one ts && list_all (λ t. is_gone (out-Target t) && target_formed t) ts)
formed_Del ts = kind_is (s.Del ts) (StmtKind-F.Del ts) (s.rolls-Del ts) ∙ fold-roll-StmtKind Bool Bool Handled Bool kind_step branch_step handler_step stmt_step (StmtKind-F.Del ts)

pub formed_Pass : kind_formed s.Pass ≡ true
formed_Pass = kind_is s.Pass StmtKind-F.Pass s.rolls-Pass ∙ fold-roll-StmtKind Bool Bool Handled Bool kind_step branch_step handler_step stmt_step StmtKind-F.Pass

pub formed_Break : kind_formed s.Break ≡ true
formed_Break = kind_is s.Break StmtKind-F.Break s.rolls-Break ∙ fold-roll-StmtKind Bool Bool Handled Bool kind_step branch_step handler_step stmt_step StmtKind-F.Break

pub formed_Continue : kind_formed s.Continue ≡ true
formed_Continue = kind_is s.Continue StmtKind-F.Continue s.rolls-Continue ∙ fold-roll-StmtKind Bool Bool Handled Bool kind_step branch_step handler_step stmt_step StmtKind-F.Continue

pub formed_Return : (o : Option Expr) → kind_formed (s.Return o) ≡ option_formed o
formed_Return o = kind_is (s.Return o) (StmtKind-F.Return o) (s.rolls-Return o) ∙ fold-roll-StmtKind Bool Bool Handled Bool kind_step branch_step handler_step stmt_step (StmtKind-F.Return o)

pub formed_Raise : (o : Option Expr) → kind_formed (s.Raise o) ≡ option_formed o
formed_Raise o = kind_is (s.Raise o) (StmtKind-F.Raise o) (s.rolls-Raise o) ∙ fold-roll-StmtKind Bool Bool Handled Bool kind_step branch_step handler_step stmt_step (StmtKind-F.Raise o)

pub formed_Global : (names : List (List ℕ)) → kind_formed (s.Global names) ≡ (has_one names && list_all is_ascii names)
formed_Global names = kind_is (s.Global names) (StmtKind-F.Global names) (s.rolls-Global names) ∙ fold-roll-StmtKind Bool Bool Handled Bool kind_step branch_step handler_step stmt_step (StmtKind-F.Global names)

pub formed_Import : (names : List Alias) → kind_formed (s.Import names) ≡ (has_one names && list_all alias_formed names)
formed_Import names = kind_is (s.Import names) (StmtKind-F.Import names) (s.rolls-Import names) ∙ fold-roll-StmtKind Bool Bool Handled Bool kind_step branch_step handler_step stmt_step (StmtKind-F.Import names)

pub formed_From : (path : List ℕ) (names : List Alias) → kind_formed (s.From path names) ≡ (is_ascii path && (has_one names && list_all alias_formed names))
formed_From path names = kind_is (s.From path names) (StmtKind-F.From path names) (s.rolls-From path names) ∙ fold-roll-StmtKind Bool Bool Handled Bool kind_step branch_step handler_step stmt_step (StmtKind-F.From path names)

pub formed_Assert : (x : Expr) (o : Option Expr) → kind_formed (s.Assert x o) ≡ (expr_formed x && option_formed o)
formed_Assert x o = kind_is (s.Assert x o) (StmtKind-F.Assert x o) (s.rolls-Assert x o) ∙ fold-roll-StmtKind Bool Bool Handled Bool kind_step branch_step handler_step stmt_step (StmtKind-F.Assert x o)

-- of one branch or more
pub formed_If : (b : Branch) (bs : List Branch) (rest : List Stmt) → kind_formed (s.If (b ∷ bs) rest) ≡ (list_all branch_formed (b ∷ bs) && list_all stmt_formed rest)
formed_If b bs rest =
    kind_is (s.If (b ∷ bs) rest) (StmtKind-F.If (b ∷ bs) rest) (s.rolls-If (b ∷ bs) rest) ∙ fold-roll-StmtKind Bool Bool Handled Bool kind_step branch_step handler_step stmt_step (StmtKind-F.If (b ∷ bs) rest)
    ∙ ap (λ q. q && list_all (λ stmt. stmt) (map stmt_formed rest)) (list_all-map (λ q. q) branch_formed (b ∷ bs)) ∙ ap (λ q. list_all branch_formed (b ∷ bs) && q) (all_is rest)

pub formed_While : (x : Expr) (body rest : List Stmt) → kind_formed (s.While x body rest) ≡ (expr_formed x && (block_formed body && list_all stmt_formed rest))
formed_While x body rest =
    kind_is (s.While x body rest) (StmtKind-F.While x body rest) (s.rolls-While x body rest) ∙ fold-roll-StmtKind Bool Bool Handled Bool kind_step branch_step handler_step stmt_step (StmtKind-F.While x body rest)
    ∙ ap (λ q. expr_formed x && (q && list_all (λ stmt. stmt) (map stmt_formed rest))) (block_is body) ∙ ap (λ q. expr_formed x && (block_formed body && q)) (all_is rest)

pub formed_For : (t : Target) (x : Expr) (body rest : List Stmt) → kind_formed (s.For t x body rest) ≡ (target_formed t && (expr_formed x && (block_formed body && list_all stmt_formed rest)))
formed_For t x body rest =
    kind_is (s.For t x body rest) (StmtKind-F.For t x body rest) (s.rolls-For t x body rest) ∙ fold-roll-StmtKind Bool Bool Handled Bool kind_step branch_step handler_step stmt_step (StmtKind-F.For t x body rest)
    ∙ ap (λ q. target_formed t && (expr_formed x && (q && list_all (λ stmt. stmt) (map stmt_formed rest)))) (block_is body)
    ∙ ap (λ q. target_formed t && (expr_formed x && (block_formed body && q))) (all_is rest)

pub formed_Def : (text : List ℕ) (params : List Param) (body : List Stmt) → kind_formed (s.Def text params body) ≡ (is_ascii text && (params_formed params && block_formed body))
formed_Def text params body =
    kind_is (s.Def text params body) (StmtKind-F.Def text params body) (s.rolls-Def text params body) ∙ fold-roll-StmtKind Bool Bool Handled Bool kind_step branch_step handler_step stmt_step (StmtKind-F.Def text params body)
    ∙ ap (λ q. is_ascii text && (params_formed params && q)) (block_is body)

-- what is asked of a `try`, where it goes on with a handler or a `finally`
abbrev pub try_formed : List Stmt → List Handler → List Stmt → Option (List Stmt) → Bool
try_formed body handlers rest last =
    block_formed body && ((has_one handlers || is_some last) && ((has_one handlers || not (has_one rest))
    && (tests_first (map handled handlers) && (list_all (λ handler. (handled handler).1) handlers && (list_all stmt_formed rest && option_block last)))))

pub formed_Try : (body : List Stmt) (handlers : List Handler) (rest : List Stmt) (last : Option (List Stmt)) → kind_formed (s.Try body handlers rest last) ≡ try_formed body handlers rest last
formed_Try body handlers rest None =
    kind_is (s.Try body handlers rest None) (StmtKind-F.Try body handlers rest None) (s.rolls-Try body handlers rest None) ∙ fold-roll-StmtKind Bool Bool Handled Bool kind_step branch_step handler_step stmt_step (StmtKind-F.Try body handlers rest None)
    ∙ rw (block_is body, has_one_map handled handlers, has_one_map stmt_formed rest, list_all-map (λ (h : Handled). h.1) handled handlers, all_is rest) refl
formed_Try body handlers rest (Some last) =
    kind_is (s.Try body handlers rest (Some last)) (StmtKind-F.Try body handlers rest (Some last)) (s.rolls-Try body handlers rest (Some last)) ∙ fold-roll-StmtKind Bool Bool Handled Bool kind_step branch_step handler_step stmt_step (StmtKind-F.Try body handlers rest (Some last))
    ∙ rw (block_is body, has_one_map handled handlers, has_one_map stmt_formed rest, list_all-map (λ (h : Handled). h.1) handled handlers, all_is rest, block_is last) refl

-- ---- branches and handlers

pub formed_branch : (line : ℕ) (test : Expr) (body : List Stmt) → branch_formed (roll-Branch (record { line = line; test = test; body = body })) ≡ (expr_formed test && block_formed body)
formed_branch line test body =
    fold-roll-Branch Bool Bool Handled Bool kind_step branch_step handler_step stmt_step (record { line = line; test = test; body = body }) ∙ ap (λ q. expr_formed test && q) (block_is body)

pub formed_handler : (line : ℕ) (test : Option Expr) (text : Option (List ℕ)) (body : List Stmt)
    → handled (roll-Handler (record { line = line; test = test; name = text; body = body })) ≡ (is_some test, (is_some test || not (is_some text)) && (option_formed test && (option_ascii text && block_formed body)))
formed_handler line test text body =
    fold-roll-Handler Bool Bool Handled Bool kind_step branch_step handler_step stmt_step (record { line = line; test = test; name = text; body = body })
    ∙ ap (λ q. (is_some test, (is_some test || not (is_some text)) && (option_formed test && (option_ascii text && q)))) (block_is body)
