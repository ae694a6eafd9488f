-- A limit of brackets that is further off gives no other target.
use Rattle.std.proofs.Common.{◌≡◌, ℕ, zero, suc, ◌+◌, List, [], ◌∷◌, Option, Some, None, refl, sym, ap, ◌∙◌, arith}
use Rattle.py_tree.specs.declared.expr.Expr.{Expr, out-Expr}
use Rattle.py_tree.specs.declared.expr.Expr.TheOpen.{Expr-F}
use Rattle.py_tree.specs.declared.stmt.Target.{Target}
use Rattle.py_expressions.specs.Targets.{IsTarget, Layer, target_of, target_by, each, unpack, unpacked, both}

-- each target that the first gives is given by the second
abbrev Gives : (Expr → Option Target) → (Expr → Option Target) → Type 0
Gives go more = (x : Expr) (t : Target) → go x ≡ Some t → more x ≡ Some t

module _ (go more : Expr → Option Target) (given : Gives go more) where
  both_given : (x : Expr) (xs : List Expr) (ts : List Target) (o : Option Target) (p : Option (List Target)) → go x ≡ o → each go xs ≡ p
      → ((us : List Target) → each go xs ≡ Some us → each more xs ≡ Some us) → both o p ≡ Some ts → both (more x) (each more xs) ≡ Some ts
  both_given x xs ts None p is are rest e = absurd cc
  both_given x xs ts (Some t) None is are rest e = absurd cc
  both_given x xs ts (Some t) (Some us) is are rest e = ap (λ q. both q (each more xs)) (given x t is) ∙ ap (both (Some t)) (rest us are) ∙ e

  each_given : (xs : List Expr) (ts : List Target) → each go xs ≡ Some ts → each more xs ≡ Some ts
  unfolding each
  each_given [] ts e = e
  each_given (x ∷ xs) ts e = both_given x xs ts (go x) (each go xs) refl refl (each_given xs) e

  unpacked_given : (xs : List Expr) (t : Target) (o : Option (List Target)) → each go xs ≡ o → unpacked o ≡ Some t → unpacked (each more xs) ≡ Some t
  unpacked_given xs t None are e = absurd cc
  unpacked_given xs t (Some ts) are e = ap unpacked (each_given xs ts are) ∙ e

  unpack_given : (xs : List Expr) (t : Target) → unpack go xs ≡ Some t → unpack more xs ≡ Some t
  unfolding unpack
  unpack_given [] t e = e
  unpack_given (x ∷ xs) t e = unpacked_given (x ∷ xs) t (each go (x ∷ xs)) refl e

  by_given : (l : Layer) (t : Target) → target_by go l ≡ Some t → target_by more l ≡ Some t
  by_given (Expr-F.Tuple xs) t e = unpack_given xs t e
  by_given (Expr-F.List xs) t e = unpack_given xs t e
  by_given l t e = e

one_further : (depth : ℕ) → Gives (target_of depth) (target_of (suc depth))
unfolding target_of
one_further zero x t e = absurd cc
one_further (suc depth) x t e = by_given (target_of depth) (target_of (suc depth)) (one_further depth) (out-Expr x) t e

further : (more depth top : ℕ) → top ≡ more + depth → Gives (target_of depth) (target_of top)
further zero depth top at x t e = let same : top ≡ depth = omega arith in rw same e
further (suc more) depth top at x t e =
    let next : top ≡ suc (more + depth) = omega arith in
    rw next (one_further (more + depth) x t (further more depth (more + depth) refl x t e))

pub one_target_is : (x : Expr) (t u : Target) → IsTarget x t → IsTarget x u → t ≡ u
one_target_is x t u (depth, is) (other, are) =
    let swapped : other + depth ≡ depth + other = omega arith in
    let same : Some t ≡ Some u = sym (further other depth (other + depth) refl x t is) ∙ further depth other (other + depth) swapped x u are in
    cc
