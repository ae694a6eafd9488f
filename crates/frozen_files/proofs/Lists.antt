-- Lists beside one another, as far as they were gone over.
use Rattle.std.proofs.Common.{◌≡◌, ℕ, zero, suc, ◌+◌, ◌<◌, ◌≤◌, List, [], ◌∷◌, ◌++◌, length, take, drop, get_or, refl, sym, ap, ◌∙◌, arith}
use Rattle.std.specs.List.{AllZip}

pub zip_push : {A B : Type 0} (R : A → B → Type 0) (xs : List A) (ys : List B) (x : A) (y : B) → AllZip R xs ys → R x y → AllZip R (xs ++ x ∷ []) (ys ++ y ∷ [])
zip_push R [] [] x y zip h = (h, tt)
zip_push R [] (b ∷ ys) x y zip h = absurd zip
zip_push R (a ∷ xs) [] x y zip h = absurd zip
zip_push R (a ∷ xs) (b ∷ ys) x y zip h = (zip.0, zip_push R xs ys x y zip.1 h)

pub take_next : {A : Type 0} (xs : List A) (i : ℕ) (x : A) → i < length xs → x ≡ get_or xs i x → take (i + 1) xs ≡ take i xs ++ x ∷ []
take_next [] i x lt is = absurd (omega (arith, lt))
take_next (y ∷ xs) zero x lt is = ap (λ z. z ∷ []) (sym is)
take_next (y ∷ xs) (suc i) x lt is =
    let next : suc i + 1 ≡ suc (i + 1) = omega arith in
    ap (λ n. take n (y ∷ xs)) next ∙ ap (λ zs. y ∷ zs) (take_next xs i x (omega (arith, lt)) is)

pub parts_at : {A : Type 0} (xs : List A) (i : ℕ) (x : A) → i < length xs → x ≡ get_or xs i x → xs ≡ take i xs ++ (x ∷ drop (i + 1) xs)
parts_at [] i x lt is = absurd (omega (arith, lt))
parts_at (y ∷ xs) zero x lt is = ap (λ z. z ∷ xs) (sym is)
parts_at (y ∷ xs) (suc i) x lt is =
    let next : suc i + 1 ≡ suc (i + 1) = omega arith in
    ap (λ zs. y ∷ zs) (parts_at xs i x (omega (arith, lt)) is) ∙ ap (λ n. y ∷ (take i xs ++ (x ∷ drop n (y ∷ xs)))) (sym next)

pub take_all : {A : Type 0} (xs : List A) (i : ℕ) → length xs ≤ i → take i xs ≡ xs
take_all [] zero le = refl
take_all [] (suc i) le = refl
take_all (x ∷ xs) zero le = absurd (omega (arith, le))
take_all (x ∷ xs) (suc i) le = ap (λ zs. x ∷ zs) (take_all xs i (omega (arith, le)))
