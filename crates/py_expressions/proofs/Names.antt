-- The names of keyword arguments.
use Rattle.std.proofs.Common.{◌≡◌, ℕ, Bool, true, false, not, cond, ◌||◌, List, [], ◌∷◌, refl}
use Rattle.std.specs.List.{list_any}
use Rattle.std.specs.Str.{bytes_eq}
use Rattle.py_tree.specs.declared.expr.Expr.{Expr}
use Rattle.py_expressions.specs.Reading.{is_new, names}

other_first : (same found : Bool) (rest : Bool) → not found ≡ rest → not (same || found) ≡ cond same false rest
other_first true found rest e = refl
other_first false found rest e = e

pub is_new_any : (keys : List (List ℕ × Expr)) (text : List ℕ) → not (list_any (λ key. bytes_eq key.0 text) keys) ≡ is_new text (names keys)
is_new_any [] text = refl
is_new_any (key ∷ keys) text = other_first (bytes_eq key.0 text) (list_any (λ k. bytes_eq k.0 text) keys) (is_new text (names keys)) (is_new_any keys text)
