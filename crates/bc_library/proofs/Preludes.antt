-- The greatest of preludes, one after another.
use Rattle.std.proofs.Common.{◌≡◌, ◌⊎◌, ℕ, zero, suc, ◌+◌, ◌<◌, ◌≤◌, List, [], ◌∷◌, length, option_map, Option, Some, None, inl, inr, refl, sym, ap, subst, ◌∙◌, arith}
use Rattle.std.specs.Prelude.{slice_get, option_and_then, max}
use Rattle.mpy_tree.specs.declared.raw.RawCode.{RawCode, out-RawCode}
use Rattle.mpy_tree.specs.Raw.{Module}
use Rattle.bc_verify.specs.bc_prelude.declared.prelude.Prelude.{Prelude}
use Rattle.bc_verify.specs.bc_prelude.Prelude.{Begins}
use Rattle.mpy_tree.specs.Codes.{code_at}
use Rattle.bc_verify.proofs.bc_prelude_lemmas.Preludes.{same_prelude}
use Rattle.bc_verify.proofs.mpy_tree_lemmas.Codes.{children, and_then_some}
use Rattle.std.proofs.lemmas.Option.{slice_get_within, slice_get-map}
use Rattle.bc_verify.specs.qstr_pool.Pool.{Texts}
use Rattle.bc_library.specs.declared.library.Loaded.{Loaded}
use Rattle.bc_library.specs.Greatest.{HasPrelude, ShelfHas, IsGreatestIn}
use Rattle.bc_library.specs.Kept.{OneHas, named, shelf_of}
use Rattle.bc_library.specs.Shelf.{Shelf, Named}
use Rattle.bc_library.proofs.Shelves.{module_is}

nearer : (k n : ℕ) → k < n + 1 → (k < n) ⊎ (k ≡ n)
nearer zero zero lt = inr refl
nearer zero (suc n) lt = inl (omega arith)
nearer (suc k) zero lt = absurd (omega (arith, lt))
nearer (suc k) (suc n) lt = elim (nearer k n (omega (arith, lt))) [ inl h ↦ inl (omega (arith, h)) | inr h ↦ inr (ap suc h) ]

order : (m n : ℕ) → (m ≤ n) ⊎ (n ≤ m)
order zero n = inl (omega arith)
order (suc m) zero = inr (omega arith)
order (suc m) (suc n) = elim (order m n) [ inl h ↦ inl (omega (arith, h)) | inr h ↦ inr (omega (arith, h)) ]

which : (m n : ℕ) → (max m n ≡ m) ⊎ (max m n ≡ n)
which m n = elim (order m n) [ inl h ↦ inr (omega (arith, h)) | inr h ↦ inl (omega (arith, h)) ]

-- of both sets the greater
pub joined : (P Q R : Prelude → Type 0) (s e t f : ℕ) → IsGreatestIn P s e → IsGreatestIn Q t f → ((p : Prelude) → R p → P p ⊎ Q p) → ((p : Prelude) → P p → R p) → ((p : Prelude) → Q p → R p) → IsGreatestIn R (max s t) (max e f)
joined P Q R s e t f a b parts left right = record {
  most_state = λ p r. elim (parts p r) [ inl h ↦ omega (arith, a.most_state p h) | inr h ↦ omega (arith, b.most_state p h) ];
  most_exc = λ p r. elim (parts p r) [ inl h ↦ omega (arith, a.most_exc p h) | inr h ↦ omega (arith, b.most_exc p h) ];
  some_state = λ h. elim (which s t) [
    | inl w ↦ (let found = a.some_state (omega (arith, w, h)) in (found.0, left found.0 found.1, found.2 ∙ sym w))
    | inr w ↦ (let found = b.some_state (omega (arith, w, h)) in (found.0, right found.0 found.1, found.2 ∙ sym w))
  ];
  some_exc = λ h. elim (which e f) [
    | inl w ↦ (let found = a.some_exc (omega (arith, w, h)) in (found.0, left found.0 found.1, found.2 ∙ sym w))
    | inr w ↦ (let found = b.some_exc (omega (arith, w, h)) in (found.0, right found.0 found.1, found.2 ∙ sym w))
  ];
}

pub same_set : (P Q : Prelude → Type 0) (s e : ℕ) → IsGreatestIn P s e → ((p : Prelude) → Q p → P p) → ((p : Prelude) → P p → Q p) → IsGreatestIn Q s e
same_set P Q s e a to back = record {
  most_state = λ p q. a.most_state p (to p q);
  most_exc = λ p q. a.most_exc p (to p q);
  some_state = λ h. let found = a.some_state h in (found.0, back found.0 found.1, found.2);
  some_exc = λ h. let found = a.some_exc h in (found.0, back found.0 found.1, found.2);
}

-- a code by itself, and with its first children
-- =============================================

-- the code, or one in one of its first children
pub data HasBelow (root : RawCode) (n : ℕ) (p : Prelude) : Type 0 where
  itself : Begins (out-RawCode root).bytes p → HasBelow root n p
  within : (k : ℕ) (child : RawCode) → k < n → slice_get (children root) k ≡ Some child → HasPrelude child p → HasBelow root n p

pub first_code : (root : RawCode) (q : Prelude) → Begins (out-RawCode root).bytes q → IsGreatestIn (HasBelow root 0) q.n_state q.n_exc
first_code root q begins = record {
  most_state = λ p h. let same = only root q begins p h in omega (arith, ap (λ (z : Prelude). z.n_state) same);
  most_exc = λ p h. let same = only root q begins p h in omega (arith, ap (λ (z : Prelude). z.n_exc) same);
  some_state = λ _. (q, itself begins, refl);
  some_exc = λ _. (q, itself begins, refl);
}
  where
    only : (root : RawCode) (q : Prelude) → Begins (out-RawCode root).bytes q → (p : Prelude) → HasBelow root 0 p → p ≡ q
    only root q begins p (itself b) = same_prelude (out-RawCode root).bytes p q b begins
    only root q begins p (within k child lt e h) = absurd (omega (arith, lt))

below_parts : (root child : RawCode) (n : ℕ) → slice_get (children root) n ≡ Some child → (p : Prelude) → HasBelow root (n + 1) p → HasBelow root n p ⊎ HasPrelude child p
below_parts root child n here p (itself b) = inl (itself b)
below_parts root child n here p (within k other lt e h) =
    elim (nearer k n lt) [
      | inl below ↦ inl (within k other below e h)
      | inr at ↦
          let both : Some other ≡ Some child = sym e ∙ (ap (slice_get (children root)) at ∙ here) in
          let same : other ≡ child = cc in
          inr (subst (λ z. HasPrelude z p) same h)
    ]

below_more : (root : RawCode) (n : ℕ) (p : Prelude) → HasBelow root n p → HasBelow root (n + 1) p
below_more root n p (itself b) = itself b
below_more root n p (within k child lt e h) = within k child (omega (arith, lt)) e h

pub next_child : (root child : RawCode) (n s e t f : ℕ) → slice_get (children root) n ≡ Some child → IsGreatestIn (HasBelow root n) s e → IsGreatestIn (HasPrelude child) t f → IsGreatestIn (HasBelow root (n + 1)) (max s t) (max e f)
next_child root child n s e t f here a b =
    joined (HasBelow root n) (HasPrelude child) (HasBelow root (n + 1)) s e t f a b
    (below_parts root child n here) (below_more root n) (λ p h. within n child (omega arith) here h)

by_path : (root : RawCode) (n : ℕ) → length (children root) ≤ n → (path : List ℕ) (code : RawCode) (p : Prelude) → code_at path root ≡ Some code → Begins (out-RawCode code).bytes p → HasBelow root n p
by_path root n le [] code p e b = let same : root ≡ code = cc in itself (subst (λ z. Begins (out-RawCode z).bytes p) (sym same) b)
by_path root n le (k ∷ path) code p e b =
    let s = and_then_some (slice_get (children root) k) (code_at path) code e in
    let lt = slice_get_within (children root) k s.0 s.1 in
    within k s.0 (omega (arith, lt, le)) s.1 (record { path = path; code = code; is = s.2; begins = b })

from_below : (root : RawCode) (n : ℕ) (p : Prelude) → HasBelow root n p → HasPrelude root p
from_below root n p (itself b) = record { path = []; code = root; is = refl; begins = b }
from_below root n p (within k child lt e h) = record {
  path = k ∷ h.path;
  code = h.code;
  is = ap (option_and_then (code_at h.path)) e ∙ h.is;
  begins = h.begins;
}

pub all_children : (root : RawCode) (n s e : ℕ) → length (children root) ≤ n → IsGreatestIn (HasBelow root n) s e → IsGreatestIn (HasPrelude root) s e
all_children root n s e le a =
    same_set (HasBelow root n) (HasPrelude root) s e a (λ p h. by_path root n le h.path h.code p h.is h.begins) (from_below root n)

-- modules one after another
-- =========================

-- one of the first modules
pub record OneBelow (modules : List Loaded) (n : ℕ) (p : Prelude) : Type 0 where
  pub i : ℕ
  pub loaded : Loaded
  pub low : i < n
  pub there : slice_get modules i ≡ Some loaded
  pub has : HasPrelude loaded.«module».code p

pub no_module : (modules : List Loaded) → IsGreatestIn (OneBelow modules 0) 0 0
no_module modules = record {
  most_state = λ p h. absurd (omega (arith, h.low));
  most_exc = λ p h. absurd (omega (arith, h.low));
  some_state = λ h. absurd (omega (arith, h));
  some_exc = λ h. absurd (omega (arith, h));
}

pub next_module : (modules : List Loaded) (l : Loaded) (n s e t f : ℕ) → slice_get modules n ≡ Some l → IsGreatestIn (OneBelow modules n) s e → IsGreatestIn (HasPrelude l.«module».code) t f → IsGreatestIn (OneBelow modules (n + 1)) (max s t) (max e f)
next_module modules l n s e t f here a b =
    joined (OneBelow modules n) (HasPrelude l.«module».code) (OneBelow modules (n + 1)) s e t f a b
    (λ p h. elim (nearer h.i n h.low) [
      | inl lt ↦ inl (record { i = h.i; loaded = h.loaded; low = lt; there = h.there; has = h.has })
      | inr at ↦
          let both : Some h.loaded ≡ Some l = sym h.there ∙ (ap (slice_get modules) at ∙ here) in
          let same : h.loaded ≡ l = cc in
          inr (subst (λ (z : Loaded). HasPrelude z.«module».code p) same h.has)
    ])
    (λ p h. record { i = h.i; loaded = h.loaded; low = omega (arith, h.low); there = h.there; has = h.has })
    (λ p h. record { i = n; loaded = l; low = omega arith; there = here; has = h })

pub all_modules : (modules : List Loaded) (n s e : ℕ) → length modules ≤ n → IsGreatestIn (OneBelow modules n) s e → IsGreatestIn (OneHas modules) s e
all_modules modules n s e le a =
    same_set (OneBelow modules n) (OneHas modules) s e a
    (λ p h. record { i = h.i; loaded = h.loaded; low = omega (arith, le, slice_get_within modules h.i h.loaded h.there); there = h.there; has = h.has })
    (λ p h. record { i = h.i; loaded = h.loaded; there = h.there; has = h.has })

to_loaded : (o : Option Loaded) (m : Module) → option_and_then (λ (n : Named). Some n.held) (option_map named o) ≡ Some m → (l : Loaded) × (o ≡ Some l) × (l.«module» ≡ m)
to_loaded None m e = absurd cc
to_loaded (Some l) m e = (l, refl, cc)

pub seen_greatest : (modules : List Loaded) (refused : List (List ℕ)) (pool : Texts) (shelf : Shelf) (s e : ℕ) → shelf_of modules refused pool ≡ shelf → IsGreatestIn (OneHas modules) s e → IsGreatestIn (ShelfHas shelf) s e
seen_greatest modules refused pool shelf s e is a =
    subst (λ z. IsGreatestIn (ShelfHas z) s e) is
    (same_set (OneHas modules) (ShelfHas (shelf_of modules refused pool)) s e a
    (λ p h.
    let l = to_loaded (slice_get modules h.i) h.m (ap (option_and_then (λ (n : Named). Some n.held)) (sym (slice_get-map named modules h.i)) ∙ h.there) in
    record { i = h.i; loaded = l.0; there = l.1; has = subst (λ (z : Module). HasPrelude z.code p) (sym l.2) h.has })
    (λ p h. record { i = h.i; m = h.loaded.«module»; there = module_is modules refused pool (shelf_of modules refused pool) h.i h.loaded refl h.there; has = h.has }))
