-- The names that a library has.
use Rattle.std.proofs.Common.{◌≡◌, ◌⊎◌, inl, inr, ℕ, suc, ◌+◌, Bool, true, false, not, cond, ◌||◌, List, [], ◌∷◌, ◌++◌, length, Option, Some, None, position, nat_lt, refl, ap, ap₂, ◌∙◌, arith}
use Rattle.std.specs.Prelude.{is_some}
use Rattle.std.specs.List.{AllByRecursion, list_any, position_or_len}
use Rattle.std.specs.Str.{bytes_eq}
use Rattle.std.proofs.lemmas.Slice.Eq.{bytes_eq-Decides}
use Rattle.std.proofs.lemmas.List.{map-append}
use Rattle.std.proofs.lemmas.List.Folds.{list_any-append}
use Rattle.std.proofs.lemmas.Bool.Decides.{nat_tests}
use Rattle.mpy_tree.specs.Raw.{Module}
use Rattle.py_meaning.specs.Tree.{Name}
use Rattle.bc_library.specs.Shelf.{Named, Shelf, member_by, member_of, names, no_entries, with_module, with_refused}

-- names
-- =====

pub same_name : (a b : Name) → bytes_eq a b ≡ true → a ≡ b
same_name a b e = (bytes_eq-Decides a b).0 e

pub eq_self : (a : Name) → bytes_eq a a ≡ true
eq_self a = (bytes_eq-Decides a a).1 refl

pub apart : (a b : Name) → bytes_eq a b ≡ false → a ≡ b → ⊥
apart a b e same = let yes : bytes_eq a b ≡ true = (bytes_eq-Decides a b).1 same in cc

pub or_true : (b : Bool) → (b || true) ≡ true
or_true true = refl
or_true false = refl

or_false : (b : Bool) → (b || false) ≡ b
or_false true = refl
or_false false = refl

-- what holds of each name that a list has, by the test
pub every_name : (P : Name → Type 0) (list : List Name) → ((x : Name) → list_any (bytes_eq x) list ≡ true → P x)
    → AllByRecursion P list
every_name P [] h = tt
every_name P (name ∷ list) h = (
  h name (ap (λ (b : Bool). b || list_any (bytes_eq name) list) (eq_self name)),
  every_name P list (λ x e. h x (ap (λ (b : Bool). bytes_eq x name || b) e ∙ or_true (bytes_eq x name))),
)

-- the names of a library
-- ======================

-- has the library something under the name?
abbrev pub has : Shelf → Name → Bool
has shelf x = list_any (bytes_eq x) (names shelf) || list_any (bytes_eq x) shelf.refused

one_on : (k n : ℕ) → nat_lt (1 + k) (suc n) ≡ nat_lt k n
one_on k n = by (nat_lt k n) refl
  where
    by : (b : Bool) → nat_lt k n ≡ b → nat_lt (1 + k) (suc n) ≡ b
    by true e = grind (arith, nat_tests)
    by false e = grind (arith, nat_tests)

found : {A : Type 0} (p : A → Bool) (xs : List A) → nat_lt (position_or_len p xs) (length xs) ≡ list_any p xs
found p [] = refl
found p (x ∷ xs) = by (p x) (position_or_len p xs) (found p xs)
  where
    by : (b : Bool) (k : ℕ) → nat_lt k (length xs) ≡ list_any p xs
        → nat_lt (cond (not b) (1 + k) 0) (suc (length xs)) ≡ (b || list_any p xs)
    by true k e = grind (arith, nat_tests)
    by false k e = one_on k (length xs) ∙ e

some_by : (b : Bool) (k : ℕ) → is_some (cond b (Some k) None) ≡ b
some_by true k = refl
some_by false k = refl

some_place : {A : Type 0} (p : A → Bool) (xs : List A) → is_some (position p xs) ≡ list_any p xs
some_place p xs = some_by (nat_lt (position_or_len p xs) (length xs)) (position_or_len p xs) ∙ found p xs

some_member : (place : Option ℕ) (b : Bool) → is_some (member_by place b) ≡ (is_some place || b)
some_member (Some place) b = refl
some_member None true = refl
some_member None false = refl

pub is_member : (shelf : Shelf) (x : Name) → is_some (member_of shelf x) ≡ has shelf x
is_member shelf x =
    let refused = list_any (bytes_eq x) shelf.refused in
    some_member (position (bytes_eq x) (names shelf)) refused ∙ ap (λ (b : Bool). b || refused) (some_place (bytes_eq x) (names shelf))

pub no_member : (shelf : Shelf) (x : Name) → member_of shelf x ≡ None → has shelf x ≡ true → ⊥
no_member shelf x none e =
    let wrong : is_some (member_of shelf x) ≡ false = ap is_some none in let right = is_member shelf x ∙ e in cc

-- a further name
-- ==============

-- the library has one name more
abbrev pub Grows : (old new : Shelf) → Name → Type 0
Grows old new name = (x : Name) → has new x ≡ (has old x || bytes_eq x name)

any_last : (list : List Name) (x name : Name)
    → list_any (bytes_eq x) (list ++ name ∷ []) ≡ (list_any (bytes_eq x) list || bytes_eq x name)
any_last list x name =
    list_any-append (bytes_eq x) list (name ∷ []) ∙ ap (λ (b : Bool). list_any (bytes_eq x) list || b) (or_false (bytes_eq x name))

swapped : (a e r : Bool) → ((a || e) || r) ≡ ((a || r) || e)
swapped true e r = refl
swapped false true true = refl
swapped false true false = refl
swapped false false true = refl
swapped false false false = refl

moved : (a r e : Bool) → (a || (r || e)) ≡ ((a || r) || e)
moved true r e = refl
moved false r e = refl

pub module_grows : (shelf : Shelf) (name : Name) (m : Module) → Grows shelf (with_module shelf name m) name
module_grows shelf name m x =
    let refused = list_any (bytes_eq x) shelf.refused in
    let more : names (with_module shelf name m) ≡ names shelf ++ name ∷ [] = map-append (λ (n : Named). n.name) shelf.modules (record { name = name; held = m } ∷ []) in
    ap (λ (b : Bool). b || refused) (ap (list_any (bytes_eq x)) more ∙ any_last (names shelf) x name) ∙ swapped (list_any (bytes_eq x) (names shelf)) (bytes_eq x name) refused

pub refused_grows : (shelf : Shelf) (name : Name) → Grows shelf (with_refused shelf name) name
refused_grows shelf name x =
    let held = list_any (bytes_eq x) (names shelf) in
    ap (λ (b : Bool). held || b) (any_last shelf.refused x name) ∙ moved held (list_any (bytes_eq x) shelf.refused) (bytes_eq x name)

pub still : (old new : Shelf) (name x : Name) → Grows old new name → has old x ≡ true → has new x ≡ true
still old new name x g e = g x ∙ ap (λ (b : Bool). b || bytes_eq x name) e

pub here : (old new : Shelf) (name : Name) → Grows old new name → has new name ≡ true
here old new name g = g name ∙ (ap (λ (b : Bool). has old name || b) (eq_self name) ∙ or_true (has old name))

pub old_or_new : (old new : Shelf) (name x : Name) → Grows old new name → has new x ≡ true
    → (has old x ≡ true) ⊎ (x ≡ name)
old_or_new old new name x g e = by (has old x) (bytes_eq x name) refl refl
  where
    by : (b c : Bool) → has old x ≡ b → bytes_eq x name ≡ c → (has old x ≡ true) ⊎ (x ≡ name)
    by true c was is = inl was
    by false true was is = inr (same_name x name is)
    by false false was is = let no : has new x ≡ false = g x ∙ ap₂ (λ (a d : Bool). a || d) was is in absurd cc

-- the main module's name alone
pub main_alone : (name : Name) (m : Module) (x : Name) → has (with_module no_entries name m) x ≡ true → x ≡ name
main_alone name m x e =
    by (old_or_new no_entries (with_module no_entries name m) name x (module_grows no_entries name m) e)
  where
    by : (has no_entries x ≡ true) ⊎ (x ≡ name) → x ≡ name
    by (inl was) = absurd cc
    by (inr is) = is
