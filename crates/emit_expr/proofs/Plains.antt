-- The plain tree of an expression, by those of its parts.
use Rattle.std.proofs.Common.{◌≡◌, ℕ, ℤ, List, [], ◌∷◌, map, true, false, refl, sym, ap, ◌∙◌, subst}
use Rattle.mpy_base.specs.Val.{Nil, Truth, Int, Str}
use Rattle.py_tree.specs.declared.expr.UnaryOp.{UnaryOp}
use Rattle.py_tree.specs.declared.expr.BinaryOp.{BinaryOp}
use Rattle.py_tree.specs.declared.expr.CompareOp.{CompareOp}
use Rattle.py_tree.specs.declared.expr.Expr as trees
use Rattle.py_tree.specs.declared.expr.Expr.{roll-Expr, out-Expr, roll-out-Expr}
use Rattle.py_tree.specs.declared.expr.Expr.TheOpen.{Expr-F}
use Rattle.py_tree.specs.declared.expr.Expr.TheVariants as ex
use Rattle.py_tree.specs.declared.expr.Expr.TheFolds.{fold-roll-Expr}
use Rattle.emit_draft.specs.bc_scheme.py_meaning.Tree.{Name, Expr, Constant, Named, Unary, Not, Binary, And, Or, Compare, Cond, TupleOf, ListOf, DictOf, Attr, Index, Call, Method, Exprs, Keys}
use Rattle.emit_draft.specs.bc_scheme.py_meaning.Plain.{expr_step, plain_expr, exprs, operands, compares, pairs_of, keys_of, call_of}
use Rattle.emit_expr.specs.Emits.{plain_links, plain_pairs, plain_keys}

pub plain_None : plain_expr ex.None ≡ Constant Nil
plain_None = ap plain_expr (sym ex.rolls-None) ∙ fold-roll-Expr Expr expr_step Expr-F.None

pub plain_True : plain_expr ex.True ≡ Constant (Truth true)
plain_True = ap plain_expr (sym ex.rolls-True) ∙ fold-roll-Expr Expr expr_step Expr-F.True

pub plain_False : plain_expr ex.False ≡ Constant (Truth false)
plain_False = ap plain_expr (sym ex.rolls-False) ∙ fold-roll-Expr Expr expr_step Expr-F.False

pub plain_Int : (n : ℤ) → plain_expr (ex.Int n) ≡ Constant (Int n)
plain_Int n = ap plain_expr (sym (ex.rolls-Int n)) ∙ fold-roll-Expr Expr expr_step (Expr-F.Int n)

pub plain_Str : (text : List ℕ) → plain_expr (ex.Str text) ≡ Constant (Str text)
plain_Str text = ap plain_expr (sym (ex.rolls-Str text)) ∙ fold-roll-Expr Expr expr_step (Expr-F.Str text)

pub plain_Name : (text : List ℕ) → plain_expr (ex.Name text) ≡ Named text
plain_Name text = ap plain_expr (sym (ex.rolls-Name text)) ∙ fold-roll-Expr Expr expr_step (Expr-F.Name text)

pub plain_Unary : (op : UnaryOp) (x : trees.Expr) → plain_expr (ex.Unary op x) ≡ Unary op (plain_expr x)
plain_Unary op x = ap plain_expr (sym (ex.rolls-Unary op x)) ∙ fold-roll-Expr Expr expr_step (Expr-F.Unary op x)

pub plain_Not : (x : trees.Expr) → plain_expr (ex.Not x) ≡ Not (plain_expr x)
plain_Not x = ap plain_expr (sym (ex.rolls-Not x)) ∙ fold-roll-Expr Expr expr_step (Expr-F.Not x)

pub plain_Binary : (op : BinaryOp) (x y : trees.Expr) → plain_expr (ex.Binary op x y) ≡ Binary op (plain_expr x) (plain_expr y)
plain_Binary op x y = ap plain_expr (sym (ex.rolls-Binary op x y)) ∙ fold-roll-Expr Expr expr_step (Expr-F.Binary op x y)

pub plain_And : (xs : List trees.Expr) → plain_expr (ex.And xs) ≡ operands And (map plain_expr xs)
plain_And xs = ap plain_expr (sym (ex.rolls-And xs)) ∙ fold-roll-Expr Expr expr_step (Expr-F.And xs)

pub plain_Or : (xs : List trees.Expr) → plain_expr (ex.Or xs) ≡ operands Or (map plain_expr xs)
plain_Or xs = ap plain_expr (sym (ex.rolls-Or xs)) ∙ fold-roll-Expr Expr expr_step (Expr-F.Or xs)

pub plain_Compare : (x : trees.Expr) (links : List (CompareOp × trees.Expr)) → plain_expr (ex.Compare x links) ≡ compares (plain_expr x) (plain_links links)
plain_Compare x links = ap plain_expr (sym (ex.rolls-Compare x links)) ∙ fold-roll-Expr Expr expr_step (Expr-F.Compare x links)

pub plain_Cond : (test x y : trees.Expr) → plain_expr (ex.Cond test x y) ≡ Cond (plain_expr test) (plain_expr x) (plain_expr y)
plain_Cond test x y = ap plain_expr (sym (ex.rolls-Cond test x y)) ∙ fold-roll-Expr Expr expr_step (Expr-F.Cond test x y)

pub plain_Tuple : (xs : List trees.Expr) → plain_expr (ex.Tuple xs) ≡ TupleOf (exprs (map plain_expr xs))
plain_Tuple xs = ap plain_expr (sym (ex.rolls-Tuple xs)) ∙ fold-roll-Expr Expr expr_step (Expr-F.Tuple xs)

pub plain_List : (xs : List trees.Expr) → plain_expr (ex.List xs) ≡ ListOf (exprs (map plain_expr xs))
plain_List xs = ap plain_expr (sym (ex.rolls-List xs)) ∙ fold-roll-Expr Expr expr_step (Expr-F.List xs)

pub plain_Dict : (pairs : List (trees.Expr × trees.Expr)) → plain_expr (ex.Dict pairs) ≡ DictOf (pairs_of (plain_pairs pairs))
plain_Dict pairs = ap plain_expr (sym (ex.rolls-Dict pairs)) ∙ fold-roll-Expr Expr expr_step (Expr-F.Dict pairs)

pub plain_Attr : (x : trees.Expr) (text : List ℕ) → plain_expr (ex.Attr x text) ≡ Attr (plain_expr x) text
plain_Attr x text = ap plain_expr (sym (ex.rolls-Attr x text)) ∙ fold-roll-Expr Expr expr_step (Expr-F.Attr x text)

pub plain_Index : (x y : trees.Expr) → plain_expr (ex.Index x y) ≡ Index (plain_expr x) (plain_expr y)
plain_Index x y = ap plain_expr (sym (ex.rolls-Index x y)) ∙ fold-roll-Expr Expr expr_step (Expr-F.Index x y)

pub plain_Call : (x : trees.Expr) (args : List trees.Expr) (keys : List (Name × trees.Expr)) → plain_expr (ex.Call x args keys) ≡ call_of (plain_expr x) (exprs (map plain_expr args)) (keys_of (plain_keys keys))
plain_Call x args keys = ap plain_expr (sym (ex.rolls-Call x args keys)) ∙ fold-roll-Expr Expr expr_step (Expr-F.Call x args keys)

-- ---- callees

-- a call of it is no call of an attribute
pub record IsCalled (e : Expr) : Type 0 where
  pub is : (args : Exprs) (keys : Keys) → call_of e args keys ≡ Call e args keys

called_as : (e x : Expr) → e ≡ x → IsCalled x → IsCalled e
called_as e x is h = subst IsCalled (sym is) h

named_by : (e : trees.Expr) (f : Expr-F trees.Expr) (x : Expr) → e ≡ roll-Expr f → plain_expr (roll-Expr f) ≡ x → IsCalled x → IsCalled (plain_expr e)
named_by e f x is plain h = called_as (plain_expr e) x (ap plain_expr is ∙ plain) h

joined_called : (make : Expr → Exprs → Expr) (xs : List Expr) → ((x : Expr) (rest : Exprs) → IsCalled (make x rest)) → IsCalled (operands make xs)
joined_called make [] h = record { is = λ args keys. refl }
joined_called make (x ∷ xs) h = h x (exprs xs)

call_called : (x : Expr) (args : Exprs) (keys : Keys) → IsCalled (call_of x args keys)
call_called (Constant v) args keys = record { is = λ others more. refl }
call_called (Named n) args keys = record { is = λ others more. refl }
call_called (Unary op x) args keys = record { is = λ others more. refl }
call_called (Not x) args keys = record { is = λ others more. refl }
call_called (Binary op x y) args keys = record { is = λ others more. refl }
call_called (And x xs) args keys = record { is = λ others more. refl }
call_called (Or x xs) args keys = record { is = λ others more. refl }
call_called (Compare x links) args keys = record { is = λ others more. refl }
call_called (Cond x y z) args keys = record { is = λ others more. refl }
call_called (TupleOf xs) args keys = record { is = λ others more. refl }
call_called (ListOf xs) args keys = record { is = λ others more. refl }
call_called (DictOf xs) args keys = record { is = λ others more. refl }
call_called (Attr x n) args keys = record { is = λ others more. refl }
call_called (Index x y) args keys = record { is = λ others more. refl }
call_called (Call x xs ks) args keys = record { is = λ others more. refl }
call_called (Method x n xs ks) args keys = record { is = λ others more. refl }

called_by : (e : trees.Expr) (f : Expr-F trees.Expr) → e ≡ roll-Expr f → ((x : trees.Expr) (name : Name) → e ≡ ex.Attr x name → ⊥) → ((x : trees.Expr) (links : List (CompareOp × trees.Expr)) → e ≡ ex.Compare x links → ⊥) → IsCalled (plain_expr e)
called_by e Expr-F.None is a k = named_by e Expr-F.None (Constant Nil) is (fold-roll-Expr Expr expr_step Expr-F.None) (record { is = λ args keys. refl })
called_by e Expr-F.True is a k = named_by e Expr-F.True (Constant (Truth true)) is (fold-roll-Expr Expr expr_step Expr-F.True) (record { is = λ args keys. refl })
called_by e Expr-F.False is a k = named_by e Expr-F.False (Constant (Truth false)) is (fold-roll-Expr Expr expr_step Expr-F.False) (record { is = λ args keys. refl })
called_by e (Expr-F.Int n) is a k = named_by e (Expr-F.Int n) _ is (fold-roll-Expr Expr expr_step (Expr-F.Int n)) (record { is = λ args keys. refl })
called_by e (Expr-F.Str text) is a k = named_by e (Expr-F.Str text) _ is (fold-roll-Expr Expr expr_step (Expr-F.Str text)) (record { is = λ args keys. refl })
called_by e (Expr-F.Name name) is a k = named_by e (Expr-F.Name name) _ is (fold-roll-Expr Expr expr_step (Expr-F.Name name)) (record { is = λ args keys. refl })
called_by e (Expr-F.Unary op x) is a k = named_by e (Expr-F.Unary op x) _ is (fold-roll-Expr Expr expr_step (Expr-F.Unary op x)) (record { is = λ args keys. refl })
called_by e (Expr-F.Binary op x y) is a k = named_by e (Expr-F.Binary op x y) _ is (fold-roll-Expr Expr expr_step (Expr-F.Binary op x y)) (record { is = λ args keys. refl })
called_by e (Expr-F.And xs) is a k = named_by e (Expr-F.And xs) _ is (fold-roll-Expr Expr expr_step (Expr-F.And xs)) (joined_called And (map plain_expr xs) (λ x rest. record { is = λ args keys. refl }))
called_by e (Expr-F.Or xs) is a k = named_by e (Expr-F.Or xs) _ is (fold-roll-Expr Expr expr_step (Expr-F.Or xs)) (joined_called Or (map plain_expr xs) (λ x rest. record { is = λ args keys. refl }))
called_by e (Expr-F.Not x) is a k = named_by e (Expr-F.Not x) _ is (fold-roll-Expr Expr expr_step (Expr-F.Not x)) (record { is = λ args keys. refl })
called_by e (Expr-F.Compare x links) is a k = absurd (k x links (is ∙ ex.rolls-Compare x links))
called_by e (Expr-F.Cond test x y) is a k = named_by e (Expr-F.Cond test x y) _ is (fold-roll-Expr Expr expr_step (Expr-F.Cond test x y)) (record { is = λ args keys. refl })
called_by e (Expr-F.Tuple xs) is a k = named_by e (Expr-F.Tuple xs) _ is (fold-roll-Expr Expr expr_step (Expr-F.Tuple xs)) (record { is = λ args keys. refl })
called_by e (Expr-F.List xs) is a k = named_by e (Expr-F.List xs) _ is (fold-roll-Expr Expr expr_step (Expr-F.List xs)) (record { is = λ args keys. refl })
called_by e (Expr-F.Dict pairs) is a k = named_by e (Expr-F.Dict pairs) _ is (fold-roll-Expr Expr expr_step (Expr-F.Dict pairs)) (record { is = λ args keys. refl })
called_by e (Expr-F.Attr x name) is a k = absurd (a x name (is ∙ ex.rolls-Attr x name))
called_by e (Expr-F.Index x y) is a k = named_by e (Expr-F.Index x y) _ is (fold-roll-Expr Expr expr_step (Expr-F.Index x y)) (record { is = λ args keys. refl })
called_by e (Expr-F.Call x args keys) is a k = named_by e (Expr-F.Call x args keys) _ is (fold-roll-Expr Expr expr_step (Expr-F.Call x args keys)) (call_called (plain_expr x) (exprs (map plain_expr args)) (keys_of (plain_keys keys)))

-- what is neither an attribute nor a comparison
pub others_called : (e : trees.Expr) → ((x : trees.Expr) (name : Name) → e ≡ ex.Attr x name → ⊥) → ((x : trees.Expr) (links : List (CompareOp × trees.Expr)) → e ≡ ex.Compare x links → ⊥) → IsCalled (plain_expr e)
others_called e a k = called_by e (out-Expr e) (sym (roll-out-Expr e)) a k

-- a comparison with something
pub compare_called : (x : Expr) (links : List (CompareOp × Expr)) → (links ≡ [] → ⊥) → IsCalled (compares x links)
compare_called x [] some = absurd (some refl)
compare_called x (link ∷ links) some = record { is = λ args keys. refl }
