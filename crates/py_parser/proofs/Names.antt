-- The names of parameters.
use Rattle.std.proofs.Common.{◌≡◌, ℕ, Bool, true, false, not, cond, ◌||◌, List, [], ◌∷◌, refl, ap, ◌∙◌}
use Rattle.std.specs.List.{list_any}
use Rattle.std.specs.Str.{bytes_eq}
use Rattle.py_tree.specs.declared.stmt.Param.{Param}
use Rattle.py_expressions.specs.Reading.{is_new}
use Rattle.py_parser.specs.Clauses.{param_names}

other_first : (same found : Bool) (rest : Bool) → not found ≡ rest → not (same || found) ≡ cond same false rest
other_first true found rest e = refl
other_first false found rest e = e

pub is_new_any : (params : List Param) (text : List ℕ) → not (list_any (λ param. bytes_eq param.name text) params) ≡ is_new text (param_names params)
is_new_any [] text = refl
is_new_any (p ∷ ps) text = other_first (bytes_eq p.name text) (list_any (λ q. bytes_eq q.name text) ps) (is_new text (param_names ps)) (is_new_any ps text)
