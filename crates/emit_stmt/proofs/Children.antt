-- Children of parts in a row.
use Rattle.std.proofs.Common.{◌≡◌, ℕ, suc, ◌+◌, List, [], ◌∷◌, ◌++◌, length, subst, arith}
use Rattle.emit_expr.specs.bc_scheme.Context.{Context}
use Rattle.emit_stmt.specs.Children.{Made, AreChildren, no_child, child}

pub front : {c : Context} {i : ℕ} (xs ys : List Made) → AreChildren c i (xs ++ ys) → AreChildren c i xs
front [] ys h = no_child
front (x ∷ xs) ys (child at is h) = child at is (front xs ys h)

-- behind the first ones, from the index that stands behind them
pub back : {c : Context} {i j : ℕ} (xs ys : List Made) → j ≡ i + length xs → AreChildren c i (xs ++ ys) → AreChildren c j ys
back {c = c} {i = i} {j = j} [] ys e h =
    let e2 : i ≡ j = omega arith in
    subst (λ z. AreChildren c z ys) e2 h
back {i = i} {j = j} (x ∷ xs) ys e (child at is h) =
    let e2 : j ≡ suc i + length xs = omega arith in
    back xs ys e2 h
