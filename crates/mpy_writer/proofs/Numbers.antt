-- Numbers that a table gives.
use Rattle.std.proofs.Common.{◌≡◌, ℕ, zero, suc, ◌+◌, ◌-◌, ◌<◌, ◌≤◌, cond, List, [], ◌∷◌, ◌++◌, length, get_or, map, Bor, Option, Some, None, option_map, position, slice_get, refl, sym, ap, subst, ◌∙◌, inl, inr, arith, append_assoc}
use Rattle.std.specs.Prelude.{Contains, unwrap_or, IsSome, option_copied}
use Rattle.std.specs.List.{AllByRecursion}
use Rattle.std.specs.Str.{bytes_eq}
use Rattle.std.proofs.lemmas.List.{map-append, get_or-map, length-map}
use Rattle.std.proofs.lemmas.List.Elements.{Contains-append_left, Contains-append_right}
use Rattle.std.proofs.lemmas.List.Quantifiers.{position-Some}
use Rattle.mpy_base.specs.declared.limits.TheConstants.{MAX_TABLE}
use Rattle.std.proofs.lemmas.Bool.{le-ltb}
use Rattle.std.proofs.lemmas.Option.{slice_get-get_or}
use Rattle.mpy_tree.specs.qstr_pool.Pool.{Texts, number_of, text_of}
use Rattle.mpy_tree.proofs.qstr_pool_lemmas.Places.{found, absent}
use Rattle.mpy_tree.specs.FirstUse.{FirstUsed}
use Rattle.mpy_writer.specs.Tables.{Fits}
use Rattle.mpy_writer.proofs.Uses.{not_there}

-- the number of a text is small
pub number_small : (table : Texts) (text : List ℕ) → Fits table → unwrap_or (number_of table text) 0 ≤ MAX_TABLE
number_small table text fits = by_place (position (bytes_eq text) table.texts) refl where
  by_place : (r : Option ℕ) → position (bytes_eq text) table.texts ≡ r → unwrap_or (option_map (λ place. table.first + place) r) 0 ≤ MAX_TABLE
  by_place None e = omega arith
  by_place (Some i) e =
      let at = position-Some (bytes_eq text) table.texts i [] e in
      let lt = at.0 in
      let first = fits.first in
      let few = fits.few in
      omega (arith, lt, first, few)

-- and leads to it where the text is in the table
pub number_leads : (table : Texts) (text : List ℕ) → table.first ≡ 0 → Contains table.texts text → slice_get table.texts (unwrap_or (number_of table text) 0) ≡ Some text
number_leads table text first there = by_place (position (bytes_eq text) table.texts) refl where
  by_place : (r : Option ℕ) → position (bytes_eq text) table.texts ≡ r → slice_get table.texts (unwrap_or (option_map (λ place. table.first + place) r) 0) ≡ Some text
  by_place None e = absurd (not_there text table.texts (absent table.texts text e) there)
  by_place (Some i) e =
      let place : table.first + i ≡ i = omega (arith, first) in
      ap (slice_get table.texts) place ∙ found table.texts text i e

-- what is used is in the table
pub first_there : {A : Type 0} (x : A) (xs : List A) → Contains (x ∷ xs) x
first_there x xs = (0, omega arith, refl)

pub used_there : {A : Type 0} (before used table : List A) → FirstUsed before used table → AllByRecursion (Contains (before ++ table)) used
used_there before [] table h = tt
used_there {A} before (x ∷ xs) table (inl h) = (Contains-append_left before table x h.0, used_there before xs table h.1)
used_there {A} before (x ∷ xs) table (inr h) =
    let whole : (before ++ x ∷ []) ++ h.1 ≡ before ++ table = append_assoc before (x ∷ []) h.1 ∙ ap (λ (z : List A). before ++ z) (sym h.2) in
    let here : Contains table x = subst (λ (z : List A). Contains z x) (sym h.2) (first_there x h.1) in
    (Contains-append_right before table x here, subst (λ (z : List A). AllByRecursion (Contains z) xs) whole (used_there (before ++ x ∷ []) xs h.1 h.3))

-- tables of what is seen of values
module _ {A B : Type 0} (f : A → B) (Fine : A → Type 0) (same : (x y : A) → Fine x → Fine y → f x ≡ f y → x ≡ y) where
  Contains-seen : (xs : List A) (x : A) → Contains xs x → Contains (map f xs) (f x)
  Contains-seen xs x h = let lt = h.1 in (h.0, omega (arith, lt, length-map xs f), get_or-map f xs h.0 x (f x) h.1 ∙ ap f h.2)

  fine_at : (xs : List A) (i : ℕ) (x : A) → i < length xs → AllByRecursion Fine xs → Fine (get_or xs i x)
  fine_at [] i x lt fine = absurd (omega (arith, lt))
  fine_at (y ∷ xs) zero x lt fine = fine.0
  fine_at (y ∷ xs) (suc i) x lt fine = fine_at xs i x (omega (arith, lt)) fine.1

  Contains-unseen : (xs : List A) (x : A) → AllByRecursion Fine xs → Fine x → Contains (map f xs) (f x) → Contains xs x
  Contains-unseen xs x fine one h =
      let lt : h.0 < length xs = let all = h.1 in omega (arith, all, length-map xs f) in
      let seen : f (get_or xs h.0 x) ≡ f x = sym (get_or-map f xs h.0 x (f x) lt) ∙ h.2 in
      (h.0, lt, same (get_or xs h.0 x) x (fine_at xs h.0 x lt fine) one seen)

  fine_push : (xs : List A) (x : A) → AllByRecursion Fine xs → Fine x → AllByRecursion Fine (xs ++ x ∷ [])
  fine_push [] x fine one = (one, tt)
  fine_push (y ∷ xs) x fine one = (fine.0, fine_push xs x fine.1 one)

  pub unseen : (before used : List A) (table : List B) → AllByRecursion Fine before → AllByRecursion Fine used → FirstUsed (map f before) (map f used) table
      → (xs : List A) × (map f xs ≡ table) × FirstUsed before used xs
  unseen before [] table fine all h = ([], sym h, refl)
  unseen before (x ∷ xs) table fine all (inl h) =
      let rest = unseen before xs table fine all.1 h.1 in
      (rest.0, rest.1, inl (Contains-unseen before x fine all.0 h.0, rest.2))
  unseen before (x ∷ xs) table fine all (inr h) =
      let next : map f before ++ f x ∷ [] ≡ map f (before ++ x ∷ []) = sym (map-append f before (x ∷ [])) in
      let rest = unseen (before ++ x ∷ []) xs h.1 (fine_push before x fine all.0) all.1 (subst (λ (z : List B). FirstUsed z (map f xs) h.1) next h.3) in
      (x ∷ rest.0, ap (λ (z : List B). f x ∷ z) rest.1 ∙ sym h.2, inr (λ there. h.0 (Contains-seen before x there), rest.0, refl, rest.2))

-- tables of what is seen of values that are told apart by it
pub first_seen : {A B : Type 0} (f : A → B) (one : (x y : A) → f x ≡ f y → x ≡ y) (before used table : List A) → FirstUsed before used table → FirstUsed (map f before) (map f used) (map f table)
first_seen f one before [] table h = ap (map f) h
first_seen {A} {B} f one before (x ∷ xs) table (inl h) = inl (Contains-seen f (λ (y : A). Unit {0}) (λ y z u v. one y z) before x h.0, first_seen f one before xs table h.1)
first_seen {A} {B} f one before (x ∷ xs) table (inr h) =
    let next : map f (before ++ x ∷ []) ≡ map f before ++ f x ∷ [] = map-append f before (x ∷ []) in
    inr (
      λ there. h.0 (Contains-unseen f (λ (y : A). Unit {0}) (λ y z u v. one y z) before x (all_units before) tt there),
      map f h.1,
      ap (map f) h.2,
      subst (λ (z : List B). FirstUsed z (map f xs) (map f h.1)) next (first_seen f one (before ++ x ∷ []) xs h.1 h.3),
    ) where
      all_units : (ys : List A) → AllByRecursion (λ (y : A). Unit {0}) ys
      all_units [] = tt
      all_units (y ∷ ys) = (tt, all_units ys)

-- each number below the count of a table leads to a text
pub text_there : (table : Texts) (n : ℕ) → table.first ≡ 0 → n < length table.texts → text_of table n ≡ Some (get_or table.texts n [])
text_there table n first lt =
    ap (λ b. cond b None (slice_get table.texts (n - table.first))) (le-ltb n table.first (omega (arith, first)))
    ∙ (ap (slice_get table.texts) (omega (arith, first)) ∙ slice_get-get_or table.texts n [] lt)

abbrev Bytes : Type 0
Bytes = Bor (List ℕ)

pub is_there : (o : Option Bytes) (text : List ℕ) → option_copied o ≡ Some text → IsSome o
is_there None text e = let none : ◌≡◌ {A = Option (List ℕ)} None (Some text) = e in cc
is_there (Some b) text e = refl

pub copied_is : (o : Option Bytes) (b : Bytes) (text : List ℕ) → option_copied o ≡ Some text → o ≡ Some b → b.now ≡ text
copied_is o b text e is =
    let both : ◌≡◌ {A = Option (List ℕ)} (Some b.now) (Some text) = sym (ap option_copied is) ∙ e in
    cc
