-- How many parts a plain tree has.
use Rattle.std.proofs.Common.{◌≡◌, suc, List, [], ◌∷◌, length, map, refl, ap}
use Rattle.py_tree.specs.declared.expr.Expr as trees
use Rattle.emit_draft.specs.bc_scheme.py_meaning.Tree.{Name, count, pair_count, key_count}
use Rattle.emit_draft.specs.bc_scheme.py_meaning.Plain.{plain_expr, exprs, pairs_of, keys_of}
use Rattle.emit_expr.specs.Emits.{plain_pairs, plain_keys}

pub count_plain : (xs : List trees.Expr) → count (exprs (map plain_expr xs)) ≡ length xs
count_plain [] = refl
count_plain (x ∷ xs) = ap suc (count_plain xs)

pub pairs_plain : (xs : List (trees.Expr × trees.Expr)) → pair_count (pairs_of (plain_pairs xs)) ≡ length xs
pairs_plain [] = refl
pairs_plain (x ∷ xs) = ap suc (pairs_plain xs)

pub keys_plain : (xs : List (Name × trees.Expr)) → key_count (keys_of (plain_keys xs)) ≡ length xs
keys_plain [] = refl
keys_plain (x ∷ xs) = ap suc (keys_plain xs)
