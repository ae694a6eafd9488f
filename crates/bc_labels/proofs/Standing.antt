-- The item that a label is.
use Rattle.std.proofs.Common.{◌≡◌, ℕ, zero, suc, ◌+◌, ◌<◌, Bool, true, false, not, cond, List, [], ◌∷◌, length, get_or, refl, ap, sym, ◌∙◌, ◌⊎◌, arith, eq-eqb}
use Rattle.std.specs.List.{count_by, position_or_len}
use Rattle.std.proofs.lemmas.List.Sums.{sum_by-cons}
use Rattle.bc_labels.specs.declared.labelled.Labelled.{Labelled}
use Rattle.bc_labels.specs.declared.labelled.Labelled.TheVariants.{At}
use Rattle.bc_labels.specs.Labels.{is_label, label_item, StandsOnce}
use Rattle.bc_labels.specs.Places.{item_at}

pub last_or_before : (k n : ℕ) → k < n + 1 → (k < n) ⊎ (k ≡ n)
last_or_before k n h = grind arith

count_cons : {X : Type 0} (p : X → Bool) (x : X) (xs : List X) → count_by p (x ∷ xs) ≡ cond (p x) 1 0 + count_by p xs
count_cons p x xs = sum_by-cons (λ y. cond (p y) 1 0) x xs

abbrev one_where : Bool → ℕ
one_where b = cond b 1 0

none_there : {X : Type 0} (p : X → Bool) (xs : List X) (k : ℕ) (d : X) → count_by p xs ≡ 0 → k < length xs → p (get_or xs k d) ≡ true → ⊥
none_there p [] k d e h t = omega arith
none_there p (x ∷ xs) zero d e h t =
    let one : cond (p x) 1 0 ≡ 1 = ap one_where t in
    omega (arith, count_cons p x xs, one)
none_there p (x ∷ xs) (suc k) d e h t = none_there p xs k d (omega (arith, count_cons p x xs)) (omega arith) t

next_place : (b : Bool) (n k : ℕ) → (b ≡ true → ⊥) → n ≡ k → cond (not b) (1 + n) 0 ≡ suc k
next_place true n k apart e = absurd (apart refl)
next_place false n k apart e = omega (arith, e)

here_place : (b : Bool) (n : ℕ) → b ≡ true → cond (not b) (1 + n) 0 ≡ 0
here_place true n e = refl
here_place false n e = cc

one_behind : (b : Bool) (n : ℕ) → cond b 1 0 + n ≡ 1 → b ≡ true → n ≡ 0
one_behind true n e t = omega (arith, e)
one_behind false n e t = cc

still_one : (b : Bool) (n : ℕ) → cond b 1 0 + n ≡ 1 → (b ≡ true → ⊥) → n ≡ 1
still_one true n e apart = absurd (apart refl)
still_one false n e apart = omega (arith, e)

-- what passes is the first that does, where one alone does
pub only_one : {X : Type 0} (p : X → Bool) (xs : List X) (k : ℕ) (d : X) → count_by p xs ≡ 1 → k < length xs → p (get_or xs k d) ≡ true → position_or_len p xs ≡ k
only_one p [] k d e h t = absurd (omega arith)
only_one p (x ∷ xs) zero d e h t = here_place (p x) (position_or_len p xs) t
only_one p (x ∷ xs) (suc k) d e h t =
    let count : cond (p x) 1 0 + count_by p xs ≡ 1 = sym (count_cons p x xs) ∙ e in
    let within : k < length xs = omega arith in
    let apart : p x ≡ true → ⊥ = λ q. none_there p xs k d (one_behind (p x) (count_by p xs) count q) within t in
    next_place (p x) (position_or_len p xs) k apart (only_one p xs k d (still_one (p x) (count_by p xs) count apart) within t)

within_by : (b : Bool) (n c l : ℕ) → cond b 1 0 + c ≡ 1 → (c ≡ 1 → n < l) → cond (not b) (1 + n) 0 < suc l
within_by true n c l e h = omega arith
within_by false n c l e h = omega (arith, h (omega (arith, e)))

-- and one does
pub one_there : {X : Type 0} (p : X → Bool) (xs : List X) → count_by p xs ≡ 1 → position_or_len p xs < length xs
one_there p [] e = absurd (omega (arith, e))
one_there p (x ∷ xs) e =
    within_by (p x) (position_or_len p xs) (count_by p xs) (length xs) (sym (count_cons p x xs) ∙ e) (one_there p xs)

is_label-At : (label : ℕ) (item : Labelled) → item ≡ At label → is_label label item ≡ true
is_label-At label item e = ap (is_label label) e ∙ eq-eqb label label refl

pub stands : (items : List Labelled) (label k : ℕ) → StandsOnce items label → k < length items → item_at items k ≡ At label → label_item items label ≡ k
stands items label k once within e = only_one (is_label label) items k (At 0) once within (is_label-At label (item_at items k) e)

pub label_within : (items : List Labelled) (label : ℕ) → StandsOnce items label → label_item items label < length items
label_within items label once = one_there (is_label label) items once
