-- Targets that were found, and those that are still to be found.
use Rattle.std.proofs.Common.{◌≡◌, List, [], ◌∷◌, ◌++◌, length, Option, Some, None, refl, sym, ap, ◌∙◌, append_assoc, arith}
use Rattle.std.proofs.lemmas.List.{append-nil}
use Rattle.py_tree.specs.declared.expr.Expr.{Expr}
use Rattle.py_tree.specs.declared.stmt.Target.{Target}
use Rattle.py_expressions.specs.Targets.{each, both}

abbrev pub behind : List Target → Option (List Target) → Option (List Target)
behind found None = None
behind found (Some ts) = Some (found ++ ts)

pub behind_both : (found : List Target) (t : Target) (o : Option (List Target)) → behind found (both (Some t) o) ≡ behind (found ++ t ∷ []) o
behind_both found t None = refl
behind_both found t (Some ts) = ap (λ (xs : List Target). Some xs) (sym (append_assoc found (t ∷ []) ts))

pub each_none : (go : Expr → Option Target) (found : List Target) (xs : List Expr) → xs ≡ [] → behind found (each go xs) ≡ Some found
unfolding each
each_none go found xs e = ap (λ q. behind found (each go q)) e ∙ ap (λ (ys : List Target). Some ys) (append-nil found)

pub each_more : (go : Expr → Option Target) (found : List Target) (x : Expr) (xs all : List Expr) (t : Target) → all ≡ x ∷ xs → go x ≡ Some t → behind found (each go all) ≡ behind (found ++ t ∷ []) (each go xs)
unfolding each
each_more go found x xs all t e h = ap (λ q. behind found (each go q)) e ∙ ap (λ o. behind found (both o (each go xs))) h ∙ behind_both found t (each go xs)

pub each_refused : (go : Expr → Option Target) (found : List Target) (x : Expr) (xs all : List Expr) → all ≡ x ∷ xs → go x ≡ None → behind found (each go all) ≡ None
unfolding each
each_refused go found x xs all e h = ap (λ q. behind found (each go q)) e ∙ ap (λ o. behind found (both o (each go xs))) h

pub behind_start : (found : List Target) (o : Option (List Target)) → found ≡ [] → o ≡ behind found o
behind_start found None e = refl
behind_start found (Some ts) e = ap (λ (xs : List Target). Some (xs ++ ts)) (sym e)

pub no_length : (xs : List Expr) → length xs ≡ 0 → xs ≡ []
no_length [] e = refl
no_length (x ∷ xs) e = absurd (omega (arith, e))
