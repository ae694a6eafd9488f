-- Lists as loops go over them.
use Rattle.std.proofs.Common.{◌≡◌, ℕ, zero, suc, ◌+◌, ◌<◌, ◌≤◌, List, [], ◌∷◌, ◌++◌, length, length-append, take, drop, get_or, All, Some, refl, sym, ap, subst, ◌∙◌, append_assoc, arith}
use Rattle.std.specs.Prelude.{slice_get}
use Rattle.std.specs.List.{flat_map, AllByRecursion}
use Rattle.std.proofs.lemmas.List.{at_drop_more, append-nil, take_more, take_all}
use Rattle.std.proofs.lemmas.List.Elements.{All-from_recursion, recursion_from_All}

pub all_taken : {A : Type 0} (P : A → Type 0) (xs : List A) (n : ℕ) → length xs ≤ n → All P (take n xs) → All P xs
all_taken P xs n le h = subst (All P) (take_all n xs le) h

pub taken_more : {A : Type 0} (P : A → Type 0) (xs : List A) (n : ℕ) (x : A) → n < length xs → x ≡ get_or xs n x → All P (take n xs) → P x → All P (take (n + 1) xs)
taken_more {A} P xs n x lt is h p =
    subst (All P) (sym (take_more xs n x lt ∙ ap (λ (z : A). take n xs ++ z ∷ []) (sym is)))
    (All-from_recursion P (take n xs ++ x ∷ []) (push (take n xs) (recursion_from_All P (take n xs) h))) where
      push : (ys : List A) → AllByRecursion P ys → AllByRecursion P (ys ++ x ∷ [])
      push [] all = (p, tt)
      push (y ∷ ys) all = (all.0, push ys all.1)

-- what is written for each of a list, one after another
pub added_more : {X : Type 0} (f : X → List ℕ) (xs : List X) (i : ℕ) (x : X) (start now next whole : List ℕ) → i < length xs → x ≡ get_or xs i x → next ≡ now ++ f x → now ++ flat_map f (drop i xs) ≡ start ++ whole → next ++ flat_map f (drop (i + 1) xs) ≡ start ++ whole
added_more {X} f xs i x start now next whole lt is step so_far =
    let rest = flat_map f (drop (i + 1) xs) in
    ap (λ (z : List ℕ). z ++ rest) step ∙ (append_assoc now (f x) rest ∙ (ap (λ (z : List ℕ). now ++ z) (ap (λ (z : X). f z ++ rest) is ∙ sym (at_drop_more (flat_map f) xs i x lt)) ∙ so_far))

drop_all : {X : Type 0} (xs : List X) (i : ℕ) → length xs ≤ i → drop i xs ≡ []
drop_all [] zero le = refl
drop_all [] (suc i) le = refl
drop_all (x ∷ xs) zero le = absurd (omega (arith, le))
drop_all (x ∷ xs) (suc i) le = drop_all xs i (omega (arith, le))

pub added_all : {X : Type 0} (f : X → List ℕ) (xs : List X) (i : ℕ) (start now whole : List ℕ) → length xs ≤ i → now ++ flat_map f (drop i xs) ≡ start ++ whole → now ≡ start ++ whole
added_all {X} f xs i start now whole le so_far =
    sym (append-nil now) ∙ (ap (λ (z : List X). now ++ flat_map f z) (sym (drop_all xs i le)) ∙ so_far)

-- what holds of each
pub each_of : {X : Type 0} (P : X → Type 0) (xs : List X) → ((n : ℕ) (x : X) → slice_get xs n ≡ Some x → P x) → AllByRecursion P xs
each_of P [] each = tt
each_of P (x ∷ xs) each = (each 0 x refl, each_of P xs (λ n y e. each (suc n) y e))

pub both_of : {X : Type 0} (P Q : X → Type 0) (xs : List X) → AllByRecursion P xs → AllByRecursion Q xs → AllByRecursion (λ x. P x × Q x) xs
both_of P Q [] p q = tt
both_of P Q (x ∷ xs) p q = ((p.0, q.0), both_of P Q xs p.1 q.1)

-- one is no longer than all
pub one_of_all : {A : Type 0} (f : A → List ℕ) (xs : List A) (n : ℕ) (x : A) → n < length xs → x ≡ get_or xs n x → length (f x) ≤ length (flat_map f xs)
one_of_all f [] n x lt is = absurd (omega (arith, lt))
one_of_all f (y ∷ ys) zero x lt is =
    let same : length (f x) ≡ length (f y) = ap (λ z. length (f z)) is in
    omega (arith, same, length-append (f y) (flat_map f ys))
one_of_all f (y ∷ ys) (suc n) x lt is = let rest = one_of_all f ys n x (omega (arith, lt)) is in omega (arith, rest, length-append (f y) (flat_map f ys))

-- an element that is there, whatever is given for others
pub get_or_any : {X : Type 0} (xs : List X) (i : ℕ) (d e : X) → i < length xs → get_or xs i d ≡ get_or xs i e
get_or_any [] i d e lt = absurd (omega (arith, lt))
get_or_any (x ∷ xs) zero d e lt = refl
get_or_any (x ∷ xs) (suc i) d e lt = get_or_any xs i d e (omega (arith, lt))
