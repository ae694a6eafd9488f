-- Reads of lists, and tests in a row.
use Rattle.std.proofs.Common.{◌≡◌, ℕ, zero, suc, ◌<◌, Bool, true, false, List, [], ◌∷◌, ◌++◌, length, map, Option, Some, None, refl, sym, ap, ◌∙◌, arith}
use Rattle.std.specs.Prelude.{slice_get, slice_set, ◌||◌}

pub or_false : (b : Bool) → (b || false) ≡ b
or_false true = refl
or_false false = refl

pub or_assoc : (a b c : Bool) → ((a || b) || c) ≡ (a || (b || c))
or_assoc true b c = refl
or_assoc false b c = refl

pub left_false : (a b : Bool) → (a || b) ≡ false → a ≡ false
left_false true b e = e
left_false false b e = refl

pub right_false : (a b : Bool) → (a || b) ≡ false → b ≡ false
right_false true b e = cc
right_false false b e = e

-- one test after another
pub or_then : (a b d w v : Bool) → (b || false) ≡ (a || w) → (d || false) ≡ (b || v) → (d || false) ≡ (a || (w || v))
or_then a b d w v e f = f ∙ ap (λ z. z || v) (sym (or_false b) ∙ e) ∙ or_assoc a w v

-- one test that is known and others to come
pub or_come : (a b w r : Bool) → (b || false) ≡ (a || w) → (b || r) ≡ (a || (w || r))
or_come a b w r e = ap (λ z. z || r) (sym (or_false b) ∙ e) ∙ or_assoc a w r

-- one test less to come
pub or_more : (a b d w v r : Bool) → (b || (v || r)) ≡ (a || w) → (d || false) ≡ (b || v) → (d || r) ≡ (a || w)
or_more a b d w v r e f = ap (λ z. z || r) (sym (or_false d) ∙ f) ∙ or_assoc b v r ∙ e

pub get_mapped : {A B : Type 0} → (f : A → B) (xs : List A) (x : A) (more : List B) → slice_get (map f (xs ++ x ∷ []) ++ more) (length xs) ≡ Some (f x)
get_mapped f [] x more = refl
get_mapped f (y ∷ xs) x more = get_mapped f xs x more

pub get_here : {A : Type 0} → (xs : List A) (x : A) → slice_get (xs ++ x ∷ []) (length xs) ≡ Some x
get_here [] x = refl
get_here (y ∷ xs) x = get_here xs x

pub get_front : {A : Type 0} → (xs ys : List A) (i : ℕ) (x : A) → slice_get xs i ≡ Some x → slice_get (xs ++ ys) i ≡ Some x
get_front [] ys i x e = cc
get_front (y ∷ xs) ys zero x e = e
get_front (y ∷ xs) ys (suc i) x e = get_front xs ys i x e

pub get_before : {A : Type 0} → (xs ys : List A) (i : ℕ) → i < length xs → slice_get (xs ++ ys) i ≡ slice_get xs i
get_before [] ys i h = absurd (omega arith)
get_before (y ∷ xs) ys zero h = refl
get_before (y ∷ xs) ys (suc i) h = get_before xs ys i (omega arith)

pub set_same : {A : Type 0} → (xs : List A) (i : ℕ) (x y : A) → slice_get xs i ≡ Some x → slice_get (slice_set xs i y) i ≡ Some y
set_same [] i x y e = cc
set_same (z ∷ xs) zero x y e = refl
set_same (z ∷ xs) (suc i) x y e = set_same xs i x y e

pub set_length : {A : Type 0} → (xs : List A) (i : ℕ) (y : A) → length (slice_set xs i y) ≡ length xs
set_length [] i y = refl
set_length (z ∷ xs) zero y = refl
set_length (z ∷ xs) (suc i) y = ap suc (set_length xs i y)

pub set_below : {A : Type 0} → (xs : List A) (i j : ℕ) (y : A) → j < i → slice_get (slice_set xs i y) j ≡ slice_get xs j
set_below [] i j y h = refl
set_below (z ∷ xs) zero j y h = absurd (omega arith)
set_below (z ∷ xs) (suc i) zero y h = refl
set_below (z ∷ xs) (suc i) (suc j) y h = set_below xs i j y (omega arith)

pub set_above : {A : Type 0} → (xs : List A) (i j : ℕ) (y : A) → i < j → slice_get (slice_set xs i y) j ≡ slice_get xs j
set_above [] i j y h = refl
set_above (z ∷ xs) i zero y h = absurd (omega arith)
set_above (z ∷ xs) zero (suc j) y h = refl
set_above (z ∷ xs) (suc i) (suc j) y h = set_above xs i j y (omega arith)

-- a label that has a position is not the free one that gets one
pub set_other : (xs : List (Option ℕ)) (i k p q : ℕ) → slice_get xs i ≡ Some None → slice_get xs k ≡ Some (Some p) → slice_get (slice_set xs i (Some q)) k ≡ Some (Some p)
set_other [] i k p q e f = cc
set_other (z ∷ xs) zero zero p q e f = cc
set_other (z ∷ xs) zero (suc k) p q e f = f
set_other (z ∷ xs) (suc i) zero p q e f = f
set_other (z ∷ xs) (suc i) (suc k) p q e f = set_other xs i k p q e f
