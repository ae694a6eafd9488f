-- The lowest of a list that is seen from its end.
use Rattle.std.proofs.Common.{◌≡◌, ℕ, zero, suc, ◌+◌, ◌-◌, ◌<◌, ◌≤◌, List, [], ◌∷◌, ◌++◌, length, get_or, take, drop, reverse, Bool, true, false, refl, sym, ap, ◌∙◌, arith, length-drop}
use Rattle.std.specs.Prelude.{nat_lt}
use Rattle.std.proofs.Math.ListN.{set}
use Rattle.std.proofs.Math.Seq.{set-append_seam}
use Rattle.std.proofs.lemmas.Bool.{ltb-true, ltb-false}
use Rattle.std.proofs.lemmas.List.{reverse-append, length-reverse, set-append_left, take_more, drop_all}

drop_whole : {A : Type 0} (xs ys : List A) (k : ℕ) → k ≡ length xs → drop k (xs ++ ys) ≡ ys
drop_whole [] ys zero e = refl
drop_whole [] ys (suc k) e = absurd (omega arith)
drop_whole (x ∷ xs) ys zero e = absurd (omega arith)
drop_whole (x ∷ xs) ys (suc k) e = drop_whole xs ys k (omega arith)

parted : {A : Type 0} (xs : List A) (h : ℕ) → xs ≡ take h xs ++ drop h xs
parted [] zero = refl
parted [] (suc h) = refl
parted (x ∷ xs) zero = refl
parted (x ∷ xs) (suc h) = ap (λ ys. x ∷ ys) (parted xs h)

pub reverse-take : {A : Type 0} (xs : List A) (h : ℕ) → reverse (take h xs) ≡ drop (length (reverse xs) - h) (reverse xs)
reverse-take {A = A} xs h =
    let e : reverse xs ≡ reverse (drop h xs) ++ reverse (take h xs) = ap reverse (parted xs h) ∙ reverse-append (take h xs) (drop h xs) in
    let n : length (reverse xs) - h ≡ length (reverse (drop h xs)) = omega (arith, length-reverse xs, length-reverse (drop h xs), length-drop h xs) in
    sym (ap (drop (length (reverse xs) - h)) e ∙ drop_whole (reverse (drop h xs)) (reverse (take h xs)) (length (reverse xs) - h) n)

reverse-cons : {A : Type 0} (x : A) (xs : List A) → reverse (x ∷ xs) ≡ reverse xs ++ x ∷ []
reverse-cons x xs = reverse-append (x ∷ []) xs

-- a slot, counted from the top, is set in the list from the bottom
pub reverse-set : {A : Type 0} (xs : List A) (i : ℕ) (v : A) → i < length xs → reverse (set xs (length xs - 1 - i) v) ≡ set (reverse xs) i v
reverse-set [] i v h = absurd (omega arith)
reverse-set {A = A} (x ∷ xs) i v h = by_test (nat_lt i (length xs)) refl (reverse-set xs i v)
  where
    by_test : (b : Bool) → nat_lt i (length xs) ≡ b → (i < length xs → reverse (set xs (length xs - 1 - i) v) ≡ set (reverse xs) i v) → reverse (set (x ∷ xs) (suc (length xs) - 1 - i) v) ≡ set (reverse (x ∷ xs)) i v
    by_test true e ih =
        let lt : i < length xs = ltb-true i (length xs) e in
        let k : suc (length xs) - 1 - i ≡ suc (length xs - 1 - i) = omega (arith, lt) in
        let l : i < length (reverse xs) = omega (arith, lt, length-reverse xs) in
        ap (λ (n : ℕ). reverse (set (x ∷ xs) n v)) k
        ∙ (reverse-cons x (set xs (length xs - 1 - i) v)
        ∙ (ap (λ (z : List A). z ++ x ∷ []) (ih lt)
        ∙ (sym (set-append_left (reverse xs) (x ∷ []) i v l) ∙ ap (λ (z : List A). set z i v) (sym (reverse-cons x xs)))))
    by_test false e ih =
        let ge = ltb-false i (length xs) e in
        let k : suc (length xs) - 1 - i ≡ zero = omega (arith, ge, h) in
        let l : length (reverse xs) ≡ i = omega (arith, ge, h, length-reverse xs) in
        ap (λ (n : ℕ). reverse (set (x ∷ xs) n v)) k
        ∙ (reverse-cons v xs
        ∙ (sym (set-append_seam (reverse xs) x [] v)
        ∙ (ap (λ (n : ℕ). set (reverse xs ++ x ∷ []) n v) l ∙ ap (λ (z : List A). set z i v) (sym (reverse-cons x xs)))))

-- the last of the first `i + 1` stands first where they are seen from their end
pub reverse-take_more : {A : Type 0} (xs : List A) (i : ℕ) (d : A) → i < length xs → reverse (take (i + 1) xs) ≡ get_or xs i d ∷ reverse (take i xs)
reverse-take_more xs i d h = ap reverse (take_more xs i d h) ∙ reverse-append (take i xs) (get_or xs i d ∷ [])

-- all but the last `n`, seen from their end
pub reverse-take_but : {A : Type 0} (xs : List A) (n : ℕ) → reverse (take (length xs - n) xs) ≡ drop n (reverse xs)
reverse-take_but {A = A} xs n = reverse-take xs (length xs - n) ∙ by_test (nat_lt n (length xs)) refl
  where
    by_test : (b : Bool) → nat_lt n (length xs) ≡ b → drop (length (reverse xs) - (length xs - n)) (reverse xs) ≡ drop n (reverse xs)
    by_test true e =
        let k : length (reverse xs) - (length xs - n) ≡ n = omega (arith, ltb-true n (length xs) e, length-reverse xs) in
        ap (λ (m : ℕ). drop m (reverse xs)) k
    by_test false e =
        let ge = ltb-false n (length xs) e in
        let k : length (reverse xs) ≤ length (reverse xs) - (length xs - n) = omega (arith, ge, length-reverse xs) in
        let l : length (reverse xs) ≤ n = omega (arith, ge, length-reverse xs) in
        drop_all (length (reverse xs) - (length xs - n)) (reverse xs) k ∙ sym (drop_all n (reverse xs) l)
