-- When an expression or a target is formed, by its parts.
use Rattle.std.proofs.Common.{◌≡◌, ℕ, ℤ, Bool, true, false, ◌&&◌, List, ◌∷◌, map, sym, ap, ◌∙◌}
use Rattle.std.specs.List.{list_all}
use Rattle.std.proofs.lemmas.List.Folds.{list_all-map}
use Rattle.py_tree.specs.declared.expr.UnaryOp.{UnaryOp}
use Rattle.py_tree.specs.declared.expr.BinaryOp.{BinaryOp}
use Rattle.py_tree.specs.declared.expr.CompareOp.{CompareOp}
use Rattle.py_tree.specs.declared.expr.Expr.{Expr}
use Rattle.py_tree.specs.declared.expr.Expr.TheOpen.{Expr-F}
use Rattle.py_tree.specs.declared.expr.Expr.TheVariants as ex
use Rattle.py_tree.specs.declared.expr.Expr.TheFolds.{fold-roll-Expr}
use Rattle.py_tree.specs.declared.stmt.Target.{Target, roll-Target, out-Target, out-roll-Target}
use Rattle.py_tree.specs.declared.stmt.Target.TheOpen.{Target-F}
use Rattle.py_tree.specs.declared.stmt.Target.TheVariants as aim
use Rattle.py_tree.specs.declared.stmt.Target.TheFolds.{fold-roll-Target}
use Rattle.py_tree.specs.Formed.{is_ascii, is_number, expr_step, expr_formed, target_step, target_formed}

pub both : (a b : Bool) → a ≡ true → b ≡ true → (a && b) ≡ true
both true b e f = f
both false b e f = e

-- ---- an expression is formed as its parts are

abbrev pub pair_formed : Expr × Expr → Bool
pair_formed pair = expr_formed pair.0 && expr_formed pair.1

abbrev pub compared_formed : CompareOp × Expr → Bool
compared_formed pair = expr_formed pair.1

abbrev pub key_formed : List ℕ × Expr → Bool
key_formed key = is_ascii key.0 && expr_formed key.1

pub formed_None : expr_formed ex.None ≡ true
formed_None = ap expr_formed (sym ex.rolls-None) ∙ fold-roll-Expr Bool expr_step Expr-F.None

pub formed_True : expr_formed ex.True ≡ true
formed_True = ap expr_formed (sym ex.rolls-True) ∙ fold-roll-Expr Bool expr_step Expr-F.True

pub formed_False : expr_formed ex.False ≡ true
formed_False = ap expr_formed (sym ex.rolls-False) ∙ fold-roll-Expr Bool expr_step Expr-F.False

pub formed_Int : (n : ℤ) → expr_formed (ex.Int n) ≡ is_number n
formed_Int n = ap expr_formed (sym (ex.rolls-Int n)) ∙ fold-roll-Expr Bool expr_step (Expr-F.Int n)

pub formed_Str : (text : List ℕ) → expr_formed (ex.Str text) ≡ is_ascii text
formed_Str text = ap expr_formed (sym (ex.rolls-Str text)) ∙ fold-roll-Expr Bool expr_step (Expr-F.Str text)

pub formed_Name : (text : List ℕ) → expr_formed (ex.Name text) ≡ is_ascii text
formed_Name text = ap expr_formed (sym (ex.rolls-Name text)) ∙ fold-roll-Expr Bool expr_step (Expr-F.Name text)

pub formed_Unary : (op : UnaryOp) (x : Expr) → expr_formed (ex.Unary op x) ≡ expr_formed x
formed_Unary op x = ap expr_formed (sym (ex.rolls-Unary op x)) ∙ fold-roll-Expr Bool expr_step (Expr-F.Unary op x)

pub formed_Binary : (op : BinaryOp) (x y : Expr) → expr_formed (ex.Binary op x y) ≡ (expr_formed x && expr_formed y)
formed_Binary op x y = ap expr_formed (sym (ex.rolls-Binary op x y)) ∙ fold-roll-Expr Bool expr_step (Expr-F.Binary op x y)

pub formed_Not : (x : Expr) → expr_formed (ex.Not x) ≡ expr_formed x
formed_Not x = ap expr_formed (sym (ex.rolls-Not x)) ∙ fold-roll-Expr Bool expr_step (Expr-F.Not x)

pub formed_Cond : (x y z : Expr) → expr_formed (ex.Cond x y z) ≡ (expr_formed x && (expr_formed y && expr_formed z))
formed_Cond x y z = ap expr_formed (sym (ex.rolls-Cond x y z)) ∙ fold-roll-Expr Bool expr_step (Expr-F.Cond x y z)

pub formed_Attr : (x : Expr) (text : List ℕ) → expr_formed (ex.Attr x text) ≡ (expr_formed x && is_ascii text)
formed_Attr x text = ap expr_formed (sym (ex.rolls-Attr x text)) ∙ fold-roll-Expr Bool expr_step (Expr-F.Attr x text)

pub formed_Index : (x y : Expr) → expr_formed (ex.Index x y) ≡ (expr_formed x && expr_formed y)
formed_Index x y = ap expr_formed (sym (ex.rolls-Index x y)) ∙ fold-roll-Expr Bool expr_step (Expr-F.Index x y)

pub formed_Tuple : (xs : List Expr) → expr_formed (ex.Tuple xs) ≡ list_all expr_formed xs
formed_Tuple xs = ap expr_formed (sym (ex.rolls-Tuple xs)) ∙ fold-roll-Expr Bool expr_step (Expr-F.Tuple xs) ∙ list_all-map (λ x. x) expr_formed xs

pub formed_List : (xs : List Expr) → expr_formed (ex.List xs) ≡ list_all expr_formed xs
formed_List xs = ap expr_formed (sym (ex.rolls-List xs)) ∙ fold-roll-Expr Bool expr_step (Expr-F.List xs) ∙ list_all-map (λ x. x) expr_formed xs

-- of two or more
pub formed_And : (x y : Expr) (xs : List Expr) → expr_formed (ex.And (x ∷ y ∷ xs)) ≡ list_all expr_formed (x ∷ y ∷ xs)
formed_And x y xs =
    let all = x ∷ y ∷ xs in
    ap expr_formed (sym (ex.rolls-And all)) ∙ fold-roll-Expr Bool expr_step (Expr-F.And all) ∙ list_all-map (λ b. b) expr_formed all

pub formed_Or : (x y : Expr) (xs : List Expr) → expr_formed (ex.Or (x ∷ y ∷ xs)) ≡ list_all expr_formed (x ∷ y ∷ xs)
formed_Or x y xs =
    let all = x ∷ y ∷ xs in
    ap expr_formed (sym (ex.rolls-Or all)) ∙ fold-roll-Expr Bool expr_step (Expr-F.Or all) ∙ list_all-map (λ b. b) expr_formed all

-- of one or more
pub formed_Compare : (first : Expr) (c : CompareOp × Expr) (cs : List (CompareOp × Expr)) → expr_formed (ex.Compare first (c ∷ cs)) ≡ (expr_formed first && list_all compared_formed (c ∷ cs))
formed_Compare first c cs =
    let all = c ∷ cs in
    ap expr_formed (sym (ex.rolls-Compare first all)) ∙ fold-roll-Expr Bool expr_step (Expr-F.Compare first all)
    ∙ ap (λ q. expr_formed first && q) (list_all-map (λ (pair : CompareOp × Bool). pair.1) (λ (pair : CompareOp × Expr). (pair.0, expr_formed pair.1)) all)

pub formed_Dict : (pairs : List (Expr × Expr)) → expr_formed (ex.Dict pairs) ≡ list_all pair_formed pairs
formed_Dict pairs =
    ap expr_formed (sym (ex.rolls-Dict pairs)) ∙ fold-roll-Expr Bool expr_step (Expr-F.Dict pairs)
    ∙ list_all-map (λ (pair : Bool × Bool). pair.0 && pair.1) (λ (pair : Expr × Expr). (expr_formed pair.0, expr_formed pair.1)) pairs

pub formed_Call : (callee : Expr) (args : List Expr) (keys : List (List ℕ × Expr)) → expr_formed (ex.Call callee args keys) ≡ (expr_formed callee && (list_all expr_formed args && list_all key_formed keys))
formed_Call callee args keys =
    ap expr_formed (sym (ex.rolls-Call callee args keys)) ∙ fold-roll-Expr Bool expr_step (Expr-F.Call callee args keys)
    ∙ ap (λ q. expr_formed callee && (q && list_all (λ (key : List ℕ × Bool). is_ascii key.0 && key.1) (map (λ (key : List ℕ × Expr). (key.0, expr_formed key.1)) keys))) (list_all-map (λ b. b) expr_formed args)
    ∙ ap (λ q. expr_formed callee && (list_all expr_formed args && q)) (list_all-map (λ (key : List ℕ × Bool). is_ascii key.0 && key.1) (λ (key : List ℕ × Expr). (key.0, expr_formed key.1)) keys)

-- ---- and a target

pub formed_name : (text : List ℕ) → target_formed (aim.Name text) ≡ is_ascii text
formed_name text = ap target_formed (sym (aim.rolls-Name text)) ∙ fold-roll-Target Bool target_step (Target-F.Name text)

pub formed_attribute : (x : Expr) (text : List ℕ) → target_formed (aim.Attr x text) ≡ (expr_formed x && is_ascii text)
formed_attribute x text = ap target_formed (sym (aim.rolls-Attr x text)) ∙ fold-roll-Target Bool target_step (Target-F.Attr x text)

pub formed_index : (x y : Expr) → target_formed (aim.Index x y) ≡ (expr_formed x && expr_formed y)
formed_index x y = ap target_formed (sym (aim.rolls-Index x y)) ∙ fold-roll-Target Bool target_step (Target-F.Index x y)

-- of one or more
pub formed_unpack : (t : Target) (ts : List Target) → target_formed (aim.Unpack (t ∷ ts)) ≡ list_all target_formed (t ∷ ts)
formed_unpack t ts =
    let all = t ∷ ts in
    ap target_formed (sym (aim.rolls-Unpack all)) ∙ fold-roll-Target Bool target_step (Target-F.Unpack all) ∙ list_all-map (λ b. b) target_formed all

-- ---- which targets are single, and which may be removed

target_is : (x : Target) (l : Target-F Target) → roll-Target l ≡ x → out-Target x ≡ l
target_is x l e = ap out-Target (sym e) ∙ out-roll-Target l

pub name_is : (text : List ℕ) → out-Target (aim.Name text) ≡ Target-F.Name text
name_is text = target_is (aim.Name text) (Target-F.Name text) (aim.rolls-Name text)

pub attribute_is : (x : Expr) (text : List ℕ) → out-Target (aim.Attr x text) ≡ Target-F.Attr x text
attribute_is x text = target_is (aim.Attr x text) (Target-F.Attr x text) (aim.rolls-Attr x text)

pub index_is : (x y : Expr) → out-Target (aim.Index x y) ≡ Target-F.Index x y
index_is x y = target_is (aim.Index x y) (Target-F.Index x y) (aim.rolls-Index x y)
