-- The length of an expression, by those of its parts.
use Rattle.std.proofs.Common.{◌≡◌, ◌<◌, ◌≤◌, ℕ, ◌+◌, List, [], ◌∷◌, length, map, refl, sym, ap, ◌∙◌, arith}
use Rattle.py_tree.specs.declared.expr.CompareOp.{CompareOp}
use Rattle.py_tree.specs.declared.expr.Expr as trees
use Rattle.py_tree.specs.declared.expr.Expr.TheOpen.{Expr-F}
use Rattle.py_tree.specs.declared.expr.Expr.TheVariants as ex
use Rattle.py_tree.specs.declared.expr.Expr.TheFolds.{fold-roll-Expr}
use Rattle.bc_scheme.specs.py_meaning.Tree.{Name, Expr, Constant, Named, Unary, Not, Binary, And, Or, Compare, Cond, TupleOf, ListOf, DictOf, Attr, Index, Call, Method, Exprs, Keys}
use Rattle.bc_scheme.specs.py_meaning.Plain.{expr_step, plain_expr, exprs, operands, links, compares, pairs_of, keys_of, call_of}
use Rattle.emit_measures.specs.Limits.{plain_pairs, plain_keys}
use Rattle.emit_measures.proofs.PlainHeights.{plain_Compare}
use Rattle.emit_measures.specs.Lengths.{comparison_length, expr_length, exprs_length, operands_length, links_length, pairs_length, keys_length}
use Rattle.emit_measures.specs.Rows.{links_with, links_wide}
use Rattle.emit_measures.proofs.Sums.{IsSum}

module _ (locals : List Name) where
  either : (xs : List Expr) → expr_length locals (operands Or xs) ≡ expr_length locals (operands And xs)
  either [] = refl
  either (x ∷ xs) = refl

  pub len_Or : (xs : List trees.Expr) → expr_length locals (plain_expr (ex.Or xs)) ≡ expr_length locals (operands And (map plain_expr xs))
  len_Or xs = ap (expr_length locals) (ap plain_expr (sym (ex.rolls-Or xs)) ∙ fold-roll-Expr Expr expr_step (Expr-F.Or xs)) ∙ either (map plain_expr xs)

  linked : (op : CompareOp) (x : trees.Expr) (rest : List (CompareOp × trees.Expr))
      → links_length locals (links op (plain_expr x) (map (λ (link : CompareOp × trees.Expr). (link.0, plain_expr link.1)) rest)) + 5 ≡ links_with 5 locals ((op, x) ∷ rest)
  linked op x [] = omega arith
  linked op x (link ∷ rest) = let h = linked link.0 link.1 rest in omega (arith, h)

  compared : (x : trees.Expr) (rest : List (CompareOp × trees.Expr)) → expr_length locals (compares (plain_expr x) (map (λ (link : CompareOp × trees.Expr). (link.0, plain_expr link.1)) rest)) ≡ expr_length locals (plain_expr x) + links_wide locals rest + 0
  compared x [] = omega arith
  compared x (link ∷ []) = omega arith
  compared x (link ∷ (next ∷ rest)) = let h = linked link.0 link.1 (next ∷ rest) in omega (arith, h)

  pub len_Compare : (x : trees.Expr) (rest : List (CompareOp × trees.Expr)) → expr_length locals (plain_expr (ex.Compare x rest)) ≡ expr_length locals (plain_expr x) + links_wide locals rest + 0
  len_Compare x rest = ap (expr_length locals) (plain_Compare x rest) ∙ compared x rest

  pub len_Dict : (pairs : List (trees.Expr × trees.Expr)) → expr_length locals (plain_expr (ex.Dict pairs)) ≡ pairs_length locals (pairs_of (plain_pairs pairs)) + 4
  len_Dict pairs = ap (expr_length locals) (ap plain_expr (sym (ex.rolls-Dict pairs)) ∙ fold-roll-Expr Expr expr_step (Expr-F.Dict pairs))

  -- a method is called with its object's attribute in front
  called : (f : Expr) (args : Exprs) (keys : Keys) → expr_length locals (call_of f args keys) ≡ expr_length locals f + exprs_length locals args + keys_length locals keys + 4
  called (Constant v) args keys = refl
  called (Named n) args keys = refl
  called (Unary op e) args keys = refl
  called (Not e) args keys = refl
  called (Binary op a b) args keys = refl
  called (And e es) args keys = refl
  called (Or e es) args keys = refl
  called (Compare e ls) args keys = refl
  called (Cond test a b) args keys = refl
  called (TupleOf es) args keys = refl
  called (ListOf es) args keys = refl
  called (DictOf ps) args keys = refl
  called (Attr e n) args keys = let x = expr_length locals e in let y = exprs_length locals args in let z = keys_length locals keys in omega arith
  called (Index a b) args keys = refl
  called (Call f xs ks) args keys = refl
  called (Method e n xs ks) args keys = refl

  pub len_Call : (x : trees.Expr) (args : List trees.Expr) (keys : List (Name × trees.Expr)) → expr_length locals (plain_expr (ex.Call x args keys))
      ≡ expr_length locals (plain_expr x) + exprs_length locals (exprs (map plain_expr args)) + keys_length locals (keys_of (plain_keys keys)) + 4
  len_Call x args keys = ap (expr_length locals) (ap plain_expr (sym (ex.rolls-Call x args keys)) ∙ fold-roll-Expr Expr expr_step (Expr-F.Call x args keys)) ∙ called (plain_expr x) (exprs (map plain_expr args)) (keys_of (plain_keys keys))

  -- ---- rows

  abbrev pub row_in : List trees.Expr → ℕ → ℕ
  row_in xs n = exprs_length locals (exprs (map plain_expr xs))

  pub row_sum : IsSum row_in (λ x xs n. expr_length locals (plain_expr x))
  row_sum = record { more = λ x xs n. (n, refl) }

  abbrev pub operands_in : List trees.Expr → ℕ → ℕ
  operands_in xs n = operands_length locals (exprs (map plain_expr xs))

  pub operands_sum : IsSum operands_in (λ x xs n. expr_length locals (plain_expr x) + 3)
  operands_sum = record { more = λ x xs n. (n, refl) }

  abbrev pub pairs_in : List (trees.Expr × trees.Expr) → ℕ → ℕ
  pairs_in ps n = pairs_length locals (pairs_of (plain_pairs ps))

  pub pairs_sum : IsSum pairs_in (λ p ps n. expr_length locals (plain_expr p.1) + expr_length locals (plain_expr p.0) + 1)
  pairs_sum = record { more = λ p ps n. (n, refl) }

  abbrev pub keys_in : List (Name × trees.Expr) → ℕ → ℕ
  keys_in ks n = keys_length locals (keys_of (plain_keys ks))

  pub keys_sum : IsSum keys_in (λ k ks n. expr_length locals (plain_expr k.1) + 4)
  keys_sum = record { more = λ k ks n. (n, refl) }

  abbrev pub links_in : ℕ → List (CompareOp × trees.Expr) → ℕ → ℕ
  links_in beside ls n = links_with beside locals ls

  pub links_sum : (beside : ℕ) → IsSum (links_in beside) (λ l ls n. expr_length locals (plain_expr l.1) + beside + comparison_length l.0)
  links_sum beside = record { more = λ l ls n. (n, refl) }

  -- one link alone has nothing beside it
  pub beside_is : (beside : ℕ) (ls : List (CompareOp × trees.Expr)) → (length ls ≤ 1 → beside ≡ 0) → (1 < length ls → beside ≡ 5) → links_with beside locals ls ≡ links_wide locals ls
  beside_is beside [] one many = refl
  beside_is beside (l ∷ []) one many = let b = one (omega arith) in ap (λ n. links_with n locals (l ∷ [])) b
  beside_is beside (l ∷ (m ∷ ls)) one many = let b = many (omega arith) in ap (λ n. links_with n locals (l ∷ (m ∷ ls))) b

  pub joined_len : (items rest : List trees.Expr) (first : trees.Expr) → items ≡ first ∷ rest
      → expr_length locals (operands And (map plain_expr items)) ≡ expr_length locals (plain_expr first) + operands_in rest 0 + 0
  joined_len items rest first e = ap (λ z. expr_length locals (operands And (map plain_expr z))) e ∙ (let a = expr_length locals (plain_expr first) in let b = operands_in rest 0 in omega arith)
