-- The height of an expression, by those of its parts.
use Rattle.std.proofs.Common.{◌≡◌, ℕ, ℤ, suc, ◌+◌, ◌≤◌, List, [], ◌∷◌, length, map, true, false, refl, sym, ap, ◌∙◌, arith, ◌⊎◌, inl, inr}
use Rattle.std.specs.Prelude.{max}
use Rattle.mpy_base.specs.Val.{Nil, Truth, Int, Str}
use Rattle.py_tree.specs.declared.expr.UnaryOp.{UnaryOp}
use Rattle.py_tree.specs.declared.expr.BinaryOp.{BinaryOp}
use Rattle.py_tree.specs.declared.expr.CompareOp.{CompareOp}
use Rattle.py_tree.specs.declared.expr.Expr as trees
use Rattle.py_tree.specs.declared.expr.Expr.{roll-Expr, out-Expr, roll-out-Expr}
use Rattle.py_tree.specs.declared.expr.Expr.TheOpen.{Expr-F}
use Rattle.py_tree.specs.declared.expr.Expr.TheVariants as ex
use Rattle.py_tree.specs.declared.expr.Expr.TheFolds.{fold-roll-Expr}
use Rattle.bc_scheme.specs.py_meaning.Tree.{Name, Expr, Constant, Named, Unary, Not, Binary, And, Or, Compare, Cond, TupleOf, ListOf, DictOf, Attr, Index, Call, Method, Exprs, Keys, count}
use Rattle.bc_scheme.specs.py_meaning.Plain.{expr_step, plain_expr, exprs, operands, links, compares, pairs_of, keys_of, call_of}
use Rattle.bc_scheme.specs.Heights.{tall, tallest, tall_above, tall_links, tall_pairs, tall_keys}
use Rattle.emit_measures.specs.Limits.{plain_pairs, plain_keys, links_height, slots_of, saturated}
use Rattle.emit_measures.proofs.Rows.{IsRow, IsPile, many}

-- ---- plain trees

plain_None : plain_expr ex.None ≡ Constant Nil
plain_None = ap plain_expr (sym ex.rolls-None) ∙ fold-roll-Expr Expr expr_step Expr-F.None

plain_True : plain_expr ex.True ≡ Constant (Truth true)
plain_True = ap plain_expr (sym ex.rolls-True) ∙ fold-roll-Expr Expr expr_step Expr-F.True

plain_False : plain_expr ex.False ≡ Constant (Truth false)
plain_False = ap plain_expr (sym ex.rolls-False) ∙ fold-roll-Expr Expr expr_step Expr-F.False

plain_Int : (n : ℤ) → plain_expr (ex.Int n) ≡ Constant (Int n)
plain_Int n = ap plain_expr (sym (ex.rolls-Int n)) ∙ fold-roll-Expr Expr expr_step (Expr-F.Int n)

plain_Str : (text : List ℕ) → plain_expr (ex.Str text) ≡ Constant (Str text)
plain_Str text = ap plain_expr (sym (ex.rolls-Str text)) ∙ fold-roll-Expr Expr expr_step (Expr-F.Str text)

plain_Name : (text : List ℕ) → plain_expr (ex.Name text) ≡ Named text
plain_Name text = ap plain_expr (sym (ex.rolls-Name text)) ∙ fold-roll-Expr Expr expr_step (Expr-F.Name text)

pub plain_Compare : (x : trees.Expr) (rest : List (CompareOp × trees.Expr)) → plain_expr (ex.Compare x rest) ≡ compares (plain_expr x) (map (λ (link : CompareOp × trees.Expr). (link.0, plain_expr link.1)) rest)
plain_Compare x rest = ap plain_expr (sym (ex.rolls-Compare x rest)) ∙ fold-roll-Expr Expr expr_step (Expr-F.Compare x rest)

pub plain_Attr : (x : trees.Expr) (text : List ℕ) → plain_expr (ex.Attr x text) ≡ Attr (plain_expr x) text
plain_Attr x text = ap plain_expr (sym (ex.rolls-Attr x text)) ∙ fold-roll-Expr Expr expr_step (Expr-F.Attr x text)

-- ---- heights

pub tall_None : tall (plain_expr ex.None) ≡ 1
tall_None = ap tall plain_None

pub tall_True : tall (plain_expr ex.True) ≡ 1
tall_True = ap tall plain_True

pub tall_False : tall (plain_expr ex.False) ≡ 1
tall_False = ap tall plain_False

pub tall_Int : (n : ℤ) → tall (plain_expr (ex.Int n)) ≡ 1
tall_Int n = ap tall (plain_Int n)

pub tall_Str : (text : List ℕ) → tall (plain_expr (ex.Str text)) ≡ 1
tall_Str text = ap tall (plain_Str text)

pub tall_Name : (text : List ℕ) → tall (plain_expr (ex.Name text)) ≡ 1
tall_Name text = ap tall (plain_Name text)

pub tall_Unary : (op : UnaryOp) (x : trees.Expr) → tall (plain_expr (ex.Unary op x)) ≡ tall (plain_expr x)
tall_Unary op x = ap tall (ap plain_expr (sym (ex.rolls-Unary op x)) ∙ fold-roll-Expr Expr expr_step (Expr-F.Unary op x))

pub tall_Not : (x : trees.Expr) → tall (plain_expr (ex.Not x)) ≡ tall (plain_expr x)
tall_Not x = ap tall (ap plain_expr (sym (ex.rolls-Not x)) ∙ fold-roll-Expr Expr expr_step (Expr-F.Not x))

pub tall_Attr : (x : trees.Expr) (text : List ℕ) → tall (plain_expr (ex.Attr x text)) ≡ tall (plain_expr x)
tall_Attr x text = ap tall (plain_Attr x text)

pub tall_Binary : (op : BinaryOp) (x y : trees.Expr) → tall (plain_expr (ex.Binary op x y)) ≡ max (tall (plain_expr x)) (1 + tall (plain_expr y))
tall_Binary op x y = ap tall (ap plain_expr (sym (ex.rolls-Binary op x y)) ∙ fold-roll-Expr Expr expr_step (Expr-F.Binary op x y))

pub tall_Index : (x y : trees.Expr) → tall (plain_expr (ex.Index x y)) ≡ max (tall (plain_expr x)) (1 + tall (plain_expr y))
tall_Index x y = ap tall (ap plain_expr (sym (ex.rolls-Index x y)) ∙ fold-roll-Expr Expr expr_step (Expr-F.Index x y))

pub tall_And : (xs : List trees.Expr) → tall (plain_expr (ex.And xs)) ≡ tall (operands And (map plain_expr xs))
tall_And xs = ap tall (ap plain_expr (sym (ex.rolls-And xs)) ∙ fold-roll-Expr Expr expr_step (Expr-F.And xs))

either : (xs : List Expr) → tall (operands Or xs) ≡ tall (operands And xs)
either [] = refl
either (x ∷ xs) = refl

pub tall_Or : (xs : List trees.Expr) → tall (plain_expr (ex.Or xs)) ≡ tall (operands And (map plain_expr xs))
tall_Or xs = ap tall (ap plain_expr (sym (ex.rolls-Or xs)) ∙ fold-roll-Expr Expr expr_step (Expr-F.Or xs)) ∙ either (map plain_expr xs)

pub tall_Cond : (test x y : trees.Expr) → tall (plain_expr (ex.Cond test x y)) ≡ max (tall (plain_expr test)) (max (tall (plain_expr x)) (tall (plain_expr y)))
tall_Cond test x y = ap tall (ap plain_expr (sym (ex.rolls-Cond test x y)) ∙ fold-roll-Expr Expr expr_step (Expr-F.Cond test x y))

pub tall_Tuple : (xs : List trees.Expr) → tall (plain_expr (ex.Tuple xs)) ≡ max 1 (tall_above 0 (exprs (map plain_expr xs)))
tall_Tuple xs = ap tall (ap plain_expr (sym (ex.rolls-Tuple xs)) ∙ fold-roll-Expr Expr expr_step (Expr-F.Tuple xs))

pub tall_List : (xs : List trees.Expr) → tall (plain_expr (ex.List xs)) ≡ max 1 (tall_above 0 (exprs (map plain_expr xs)))
tall_List xs = ap tall (ap plain_expr (sym (ex.rolls-List xs)) ∙ fold-roll-Expr Expr expr_step (Expr-F.List xs))

pub tall_Dict : (pairs : List (trees.Expr × trees.Expr)) → tall (plain_expr (ex.Dict pairs)) ≡ max 1 (tall_pairs (pairs_of (plain_pairs pairs)))
tall_Dict pairs = ap tall (ap plain_expr (sym (ex.rolls-Dict pairs)) ∙ fold-roll-Expr Expr expr_step (Expr-F.Dict pairs))

-- ---- comparisons

linked : (op : CompareOp) (x : trees.Expr) (rest : List (CompareOp × trees.Expr))
    → tall_links (links op (plain_expr x) (map (λ (link : CompareOp × trees.Expr). (link.0, plain_expr link.1)) rest)) ≡ links_height ((op, x) ∷ rest)
linked op x [] = refl
linked op x (link ∷ rest) = ap (max (max 3 (1 + tall (plain_expr x)))) (linked link.0 link.1 rest)

compared : (x : trees.Expr) (rest : List (CompareOp × trees.Expr)) → tall (compares (plain_expr x) (map (λ (link : CompareOp × trees.Expr). (link.0, plain_expr link.1)) rest)) ≡ max (tall (plain_expr x)) (links_height rest)
compared x [] = omega arith
compared x (link ∷ rest) = ap (max (tall (plain_expr x))) (linked link.0 link.1 rest)

pub tall_Compare : (x : trees.Expr) (rest : List (CompareOp × trees.Expr)) → tall (plain_expr (ex.Compare x rest)) ≡ max (tall (plain_expr x)) (links_height rest)
tall_Compare x rest = ap tall (plain_Compare x rest) ∙ compared x rest

-- ---- calls

-- an expression has a value
pub some : (e : Expr) → 1 ≤ tall e
some (Constant v) = omega arith
some (Named n) = omega arith
some (Unary op e) = some e
some (Not e) = some e
some (Binary op a b) = let h = some a in omega arith
some (And e es) = let h = some e in omega arith
some (Or e es) = let h = some e in omega arith
some (Compare e ls) = let h = some e in omega arith
some (Cond test a b) = let h = some test in omega arith
some (TupleOf es) = omega arith
some (ListOf es) = omega arith
some (DictOf ps) = omega arith
some (Attr e n) = some e
some (Index a b) = let h = some a in omega arith
some (Call f args keys) = let h = some f in omega arith
some (Method e n args keys) = omega arith

one_callee : (f a b : ℕ) → 1 ≤ f → max f (max a b) ≡ max (max (max f 1) a) b
one_callee f a b h = omega arith

two_callees : (f a b : ℕ) → max (max 2 f) (max a b) ≡ max (max (max f 2) a) b
two_callees f a b = omega arith

called : (f : Expr) (args : Exprs) (keys : Keys) → tall (call_of f args keys) ≡ max (max (max (tall f) (slots_of f)) (tall_above (slots_of f) args)) (tall_keys (slots_of f + count args) keys)
called (Constant v) args keys = one_callee 1 (tall_above 1 args) (tall_keys (1 + count args) keys) (omega arith)
called (Named n) args keys = one_callee 1 (tall_above 1 args) (tall_keys (1 + count args) keys) (omega arith)
called (Unary op e) args keys = one_callee (tall e) (tall_above 1 args) (tall_keys (1 + count args) keys) (some (Unary op e))
called (Not e) args keys = one_callee (tall e) (tall_above 1 args) (tall_keys (1 + count args) keys) (some (Not e))
called (Binary op a b) args keys = one_callee (tall (Binary op a b)) (tall_above 1 args) (tall_keys (1 + count args) keys) (some (Binary op a b))
called (And e es) args keys = one_callee (tall (And e es)) (tall_above 1 args) (tall_keys (1 + count args) keys) (some (And e es))
called (Or e es) args keys = one_callee (tall (Or e es)) (tall_above 1 args) (tall_keys (1 + count args) keys) (some (Or e es))
called (Compare e ls) args keys = one_callee (tall (Compare e ls)) (tall_above 1 args) (tall_keys (1 + count args) keys) (some (Compare e ls))
called (Cond test a b) args keys = one_callee (tall (Cond test a b)) (tall_above 1 args) (tall_keys (1 + count args) keys) (some (Cond test a b))
called (TupleOf es) args keys = one_callee (tall (TupleOf es)) (tall_above 1 args) (tall_keys (1 + count args) keys) (some (TupleOf es))
called (ListOf es) args keys = one_callee (tall (ListOf es)) (tall_above 1 args) (tall_keys (1 + count args) keys) (some (ListOf es))
called (DictOf ps) args keys = one_callee (tall (DictOf ps)) (tall_above 1 args) (tall_keys (1 + count args) keys) (some (DictOf ps))
called (Attr e n) args keys = two_callees (tall e) (tall_above 2 args) (tall_keys (2 + count args) keys)
called (Index a b) args keys = one_callee (tall (Index a b)) (tall_above 1 args) (tall_keys (1 + count args) keys) (some (Index a b))
called (Call f xs ks) args keys = one_callee (tall (Call f xs ks)) (tall_above 1 args) (tall_keys (1 + count args) keys) (some (Call f xs ks))
called (Method e n xs ks) args keys = one_callee (tall (Method e n xs ks)) (tall_above 1 args) (tall_keys (1 + count args) keys) (some (Method e n xs ks))

pub counted : (xs : List trees.Expr) → count (exprs (map plain_expr xs)) ≡ length xs
counted [] = refl
counted (x ∷ xs) = ap suc (counted xs)

pub tall_Call : (x : trees.Expr) (args : List trees.Expr) (keys : List (Name × trees.Expr)) → tall (plain_expr (ex.Call x args keys))
    ≡ max (max (max (tall (plain_expr x)) (slots_of (plain_expr x))) (tall_above (slots_of (plain_expr x)) (exprs (map plain_expr args)))) (tall_keys (slots_of (plain_expr x) + length args) (keys_of (plain_keys keys)))
tall_Call x args keys =
    ap tall (ap plain_expr (sym (ex.rolls-Call x args keys)) ∙ fold-roll-Expr Expr expr_step (Expr-F.Call x args keys)) ∙ called (plain_expr x) (exprs (map plain_expr args)) (keys_of (plain_keys keys))
    ∙ ap (λ n. max (max (max (tall (plain_expr x)) (slots_of (plain_expr x))) (tall_above (slots_of (plain_expr x)) (exprs (map plain_expr args)))) (tall_keys (slots_of (plain_expr x) + n) (keys_of (plain_keys keys)))) (counted args)

-- ---- callees

pub slots_Attr : (x : trees.Expr) (text : List ℕ) → slots_of (plain_expr (ex.Attr x text)) ≡ 2
slots_Attr x text = ap slots_of (plain_Attr x text)

pub slots_alone : (x : trees.Expr) → slots_of (plain_expr (ex.Compare x [])) ≡ slots_of (plain_expr x)
slots_alone x = ap slots_of (plain_Compare x [])

compared_slots : (x : trees.Expr) (rest : List (CompareOp × trees.Expr)) → (rest ≡ [] → ⊥) → slots_of (compares (plain_expr x) (map (λ (link : CompareOp × trees.Expr). (link.0, plain_expr link.1)) rest)) ≡ 1
compared_slots x [] h = absurd (h refl)
compared_slots x (link ∷ rest) h = refl

pub slots_Compare : (x : trees.Expr) (rest : List (CompareOp × trees.Expr)) → (rest ≡ [] → ⊥) → slots_of (plain_expr (ex.Compare x rest)) ≡ 1
slots_Compare x rest h = ap slots_of (plain_Compare x rest) ∙ compared_slots x rest h

joined_slots : (make : Expr → Exprs → Expr) (xs : List Expr) → ((x : Expr) (rest : Exprs) → slots_of (make x rest) ≡ 1) → slots_of (operands make xs) ≡ 1
joined_slots make [] h = refl
joined_slots make (x ∷ xs) h = h x (exprs xs)

call_slots : (f : Expr) (args : Exprs) (keys : Keys) → slots_of (call_of f args keys) ≡ 1
call_slots (Constant v) args keys = refl
call_slots (Named n) args keys = refl
call_slots (Unary op e) args keys = refl
call_slots (Not e) args keys = refl
call_slots (Binary op a b) args keys = refl
call_slots (And e es) args keys = refl
call_slots (Or e es) args keys = refl
call_slots (Compare e ls) args keys = refl
call_slots (Cond test a b) args keys = refl
call_slots (TupleOf es) args keys = refl
call_slots (ListOf es) args keys = refl
call_slots (DictOf ps) args keys = refl
call_slots (Attr e n) args keys = refl
call_slots (Index a b) args keys = refl
call_slots (Call f xs ks) args keys = refl
call_slots (Method e n xs ks) args keys = refl

slots_by : (e : trees.Expr) (f : Expr-F trees.Expr) → e ≡ roll-Expr f → ((x : trees.Expr) (name : Name) → e ≡ ex.Attr x name → ⊥) → ((x : trees.Expr) (rest : List (CompareOp × trees.Expr)) → e ≡ ex.Compare x rest → ⊥) → slots_of (plain_expr e) ≡ 1
slots_by e Expr-F.None is a k = ap (λ z. slots_of (plain_expr z)) is ∙ ap slots_of (fold-roll-Expr Expr expr_step Expr-F.None)
slots_by e Expr-F.True is a k = ap (λ z. slots_of (plain_expr z)) is ∙ ap slots_of (fold-roll-Expr Expr expr_step Expr-F.True)
slots_by e Expr-F.False is a k = ap (λ z. slots_of (plain_expr z)) is ∙ ap slots_of (fold-roll-Expr Expr expr_step Expr-F.False)
slots_by e (Expr-F.Int n) is a k = ap (λ z. slots_of (plain_expr z)) is ∙ ap slots_of (fold-roll-Expr Expr expr_step (Expr-F.Int n))
slots_by e (Expr-F.Str text) is a k = ap (λ z. slots_of (plain_expr z)) is ∙ ap slots_of (fold-roll-Expr Expr expr_step (Expr-F.Str text))
slots_by e (Expr-F.Name name) is a k = ap (λ z. slots_of (plain_expr z)) is ∙ ap slots_of (fold-roll-Expr Expr expr_step (Expr-F.Name name))
slots_by e (Expr-F.Unary op x) is a k = ap (λ z. slots_of (plain_expr z)) is ∙ ap slots_of (fold-roll-Expr Expr expr_step (Expr-F.Unary op x))
slots_by e (Expr-F.Binary op x y) is a k = ap (λ z. slots_of (plain_expr z)) is ∙ ap slots_of (fold-roll-Expr Expr expr_step (Expr-F.Binary op x y))
slots_by e (Expr-F.And xs) is a k = ap (λ z. slots_of (plain_expr z)) is ∙ ap slots_of (fold-roll-Expr Expr expr_step (Expr-F.And xs)) ∙ joined_slots And (map plain_expr xs) (λ x rest. refl)
slots_by e (Expr-F.Or xs) is a k = ap (λ z. slots_of (plain_expr z)) is ∙ ap slots_of (fold-roll-Expr Expr expr_step (Expr-F.Or xs)) ∙ joined_slots Or (map plain_expr xs) (λ x rest. refl)
slots_by e (Expr-F.Not x) is a k = ap (λ z. slots_of (plain_expr z)) is ∙ ap slots_of (fold-roll-Expr Expr expr_step (Expr-F.Not x))
slots_by e (Expr-F.Compare x rest) is a k = absurd (k x rest (is ∙ ex.rolls-Compare x rest))
slots_by e (Expr-F.Cond test x y) is a k = ap (λ z. slots_of (plain_expr z)) is ∙ ap slots_of (fold-roll-Expr Expr expr_step (Expr-F.Cond test x y))
slots_by e (Expr-F.Tuple xs) is a k = ap (λ z. slots_of (plain_expr z)) is ∙ ap slots_of (fold-roll-Expr Expr expr_step (Expr-F.Tuple xs))
slots_by e (Expr-F.List xs) is a k = ap (λ z. slots_of (plain_expr z)) is ∙ ap slots_of (fold-roll-Expr Expr expr_step (Expr-F.List xs))
slots_by e (Expr-F.Dict pairs) is a k = ap (λ z. slots_of (plain_expr z)) is ∙ ap slots_of (fold-roll-Expr Expr expr_step (Expr-F.Dict pairs))
slots_by e (Expr-F.Attr x name) is a k = absurd (a x name (is ∙ ex.rolls-Attr x name))
slots_by e (Expr-F.Index x y) is a k = ap (λ z. slots_of (plain_expr z)) is ∙ ap slots_of (fold-roll-Expr Expr expr_step (Expr-F.Index x y))
slots_by e (Expr-F.Call x args keys) is a k = ap (λ z. slots_of (plain_expr z)) is ∙ ap slots_of (fold-roll-Expr Expr expr_step (Expr-F.Call x args keys)) ∙ call_slots (plain_expr x) (exprs (map plain_expr args)) (keys_of (plain_keys keys))

pub slots_others : (e : trees.Expr) → ((x : trees.Expr) (name : Name) → e ≡ ex.Attr x name → ⊥) → ((x : trees.Expr) (rest : List (CompareOp × trees.Expr)) → e ≡ ex.Compare x rest → ⊥) → slots_of (plain_expr e) ≡ 1
slots_others e a k = slots_by e (out-Expr e) (sym (roll-out-Expr e)) a k

-- one or two
pub few : (e : Expr) → slots_of e ≤ 2
few (Constant v) = omega arith
few (Named n) = omega arith
few (Unary op e) = omega arith
few (Not e) = omega arith
few (Binary op a b) = omega arith
few (And e es) = omega arith
few (Or e es) = omega arith
few (Compare e ls) = omega arith
few (Cond test a b) = omega arith
few (TupleOf es) = omega arith
few (ListOf es) = omega arith
few (DictOf ps) = omega arith
few (Attr e n) = omega arith
few (Index a b) = omega arith
few (Call f args keys) = omega arith
few (Method e n args keys) = omega arith

-- ---- leaves and operands

leaf_by : (e x : trees.Expr) → e ≡ x → tall (plain_expr x) ≡ 1 → 1 ≡ saturated (tall (plain_expr e))
leaf_by e x is h = sym (ap (λ z. saturated (tall (plain_expr z))) is ∙ ap saturated h)

pub leaf : (e : trees.Expr) → (e ≡ ex.None) ⊎ ((e ≡ ex.True) ⊎ ((e ≡ ex.False) ⊎ (((n : ℤ) × (e ≡ ex.Int n)) ⊎ (((text : List ℕ) × (e ≡ ex.Str text)) ⊎ ((text : List ℕ) × (e ≡ ex.Name text))))))
    → 1 ≡ saturated (tall (plain_expr e))
leaf e (inl is) = leaf_by e ex.None is tall_None
leaf e (inr (inl is)) = leaf_by e ex.True is tall_True
leaf e (inr (inr (inl is))) = leaf_by e ex.False is tall_False
leaf e (inr (inr (inr (inl is)))) = leaf_by e (ex.Int is.0) is.1 (tall_Int is.0)
leaf e (inr (inr (inr (inr (inl is))))) = leaf_by e (ex.Str is.0) is.1 (tall_Str is.0)
leaf e (inr (inr (inr (inr (inr is))))) = leaf_by e (ex.Name is.0) is.1 (tall_Name is.0)

pub no_operand : (xs : List trees.Expr) → xs ≡ [] → 1 ≡ saturated (tall (operands And (map plain_expr xs)))
no_operand [] e = refl
no_operand (x ∷ xs) e = cc

pub operands_tall : (xs : List trees.Expr) → (xs ≡ [] → ⊥) → tall (operands And (map plain_expr xs)) ≡ tallest (exprs (map plain_expr xs))
operands_tall [] h = absurd (h refl)
operands_tall (x ∷ xs) h = refl

-- ---- rows

abbrev pub tallest_in : List trees.Expr → ℕ → ℕ
tallest_in xs n = tallest (exprs (map plain_expr xs))

pub tallest_row : IsRow tallest_in (λ x xs n. tall (plain_expr x))
tallest_row = record { more = λ x xs n. (n, refl) }

abbrev pub pairs_in : List (trees.Expr × trees.Expr) → ℕ → ℕ
pairs_in ps n = tall_pairs (pairs_of (plain_pairs ps))

pub pairs_row : IsRow pairs_in (λ p ps n. max (1 + tall (plain_expr p.1)) (2 + tall (plain_expr p.0)))
pairs_row = record { more = λ p ps n. (n, refl) }

abbrev pub links_in : List (CompareOp × trees.Expr) → ℕ → ℕ
links_in ls n = links_height ls

last_link : (a : ℕ) → 1 + a ≡ max (max 0 (1 + a)) 0
last_link a = omega arith

link_more : (l : CompareOp × trees.Expr) (ls : List (CompareOp × trees.Expr)) → links_height (l ∷ ls) ≡ max (max (many 3 ls) (1 + tall (plain_expr l.1))) (links_height ls)
link_more l [] = last_link (tall (plain_expr l.1))
link_more l (m ∷ ls) = refl

pub links_row : IsRow links_in (λ l ls n. max (many 3 ls) (1 + tall (plain_expr l.1)))
links_row = record { more = λ l ls n. (n, link_more l ls) }

abbrev pub row_in : ℕ → List trees.Expr → ℕ
row_in n xs = tall_above n (exprs (map plain_expr xs))

pub row_pile : IsPile row_in (λ x. tall (plain_expr x)) 1
row_pile = record { more = λ x xs n. let e : suc n ≡ 1 + n = omega arith in ap (λ m. max (n + tall (plain_expr x)) (tall_above m (exprs (map plain_expr xs)))) e }

abbrev pub keys_in : ℕ → List (Name × trees.Expr) → ℕ
keys_in n ks = tall_keys n (keys_of (plain_keys ks))

pub keys_pile : IsPile keys_in (λ k. 1 + tall (plain_expr k.1)) 2
keys_pile = record { more = λ k ks n. let e : 1 + n + tall (plain_expr k.1) ≡ n + (1 + tall (plain_expr k.1)) = omega arith in ap (λ m. max m (tall_keys (2 + n) (keys_of (plain_keys ks)))) e }
