-- What holds of each of some values.
use Rattle.std.proofs.Common.{◌≡◌, ℕ, zero, suc, List, [], ◌∷◌, ◌++◌, map, take, drop, set, replicate, Bool, true, false, cond, Option, Some, None, refl, sym, ap, ◌∙◌, subst}
use Rattle.std.specs.Prelude.{slice_get, insert, IsSome, ℤ}
use Rattle.std.specs.List.{AllByRecursion as Each, remove, repeat, filter}
use Rattle.std.proofs.lemmas.Bool.{false≢true}
use Rattle.bc_progress.specs.mpy_base.Val.{Val, Nil}
use Rattle.bc_progress.specs.py_values.Shown.{PlainHeap}
use Rattle.bc_progress.specs.py_values.Keys.{PlainKey, NoneKey, NumberKey, TextKey, key_of, is_same_key, has_key, value_of_key, with_key, without_key}
use Rattle.bc_progress.specs.py_primitives.Iterables.{or_nil}
use Rattle.snap_kept.specs.Values.{Differ}
use Rattle.std.proofs.lemmas.Cmp.{int_eq_equiv}
use Rattle.std.proofs.lemmas.Bool.Decides.{Decides-int_eq}
use Rattle.std.proofs.lemmas.Slice.Eq.{bytes_eq-Decides}

module _ {A : Type 0} (P : A → Type 0) where
  pub each_append : (xs ys : List A) → Each P xs → Each P ys → Each P (xs ++ ys)
  each_append [] ys p q = q
  each_append (x ∷ xs) ys p q = (p.0, each_append xs ys (p.1) q)

  pub each_take : (n : ℕ) (xs : List A) → Each P xs → Each P (take n xs)
  each_take zero xs p = tt
  each_take (suc n) [] p = tt
  each_take (suc n) (x ∷ xs) p = (p.0, each_take n xs (p.1))

  pub each_drop : (n : ℕ) (xs : List A) → Each P xs → Each P (drop n xs)
  each_drop zero xs p = p
  each_drop (suc n) [] p = tt
  each_drop (suc n) (x ∷ xs) p = each_drop n xs (p.1)

  pub each_remove : (xs : List A) (at : ℕ) → Each P xs → Each P (remove xs at)
  each_remove xs at p = each_append (take at xs) (drop (suc at) xs) (each_take at xs p) (each_drop (suc at) xs p)

  pub each_insert : (xs : List A) (at : ℕ) (x : A) → Each P xs → P x → Each P (insert xs at x)
  each_insert xs at x p q = each_append (take at xs) (x ∷ drop at xs) (each_take at xs p) (q, each_drop at xs p)

  pub each_set : (xs : List A) (at : ℕ) (x : A) → Each P xs → P x → Each P (set xs at x)
  each_set [] at x p q = tt
  each_set (y ∷ xs) zero x p q = (q, p.1)
  each_set (y ∷ xs) (suc at) x p q = (p.0, each_set xs at x (p.1) q)

  pub each_repeat : (n : ℕ) (xs : List A) → Each P xs → Each P (repeat n xs)
  each_repeat zero xs p = tt
  each_repeat (suc n) xs p = each_append xs (repeat n xs) p (each_repeat n xs p)

  pub each_replicate : (n : ℕ) (x : A) → P x → Each P (replicate n x)
  each_replicate zero x p = tt
  each_replicate (suc n) x p = (p, each_replicate n x p)

  pub each_get : (xs : List A) (at : ℕ) (x : A) → Each P xs → slice_get xs at ≡ Some x → P x
  each_get [] at x p e = absurd cc
  each_get (y ∷ xs) zero x p e = let same : y ≡ x = cc in subst P same (p.0)
  each_get (y ∷ xs) (suc at) x p e = each_get xs at x (p.1) e

  pub each_filter : (test : A → Bool) (xs : List A) → Each P xs → Each P (filter test xs)
  each_filter test [] p = tt
  each_filter test (x ∷ xs) p = by (test x) (each_filter test xs (p.1))
    where
      by : (b : Bool) → Each P (filter test xs) → Each P (cond b (x ∷ filter test xs) (filter test xs))
      by true q = (p.0, q)
      by false q = q

  pub each_all : ((x : A) → P x) → (xs : List A) → Each P xs
  each_all f [] = tt
  each_all f (x ∷ xs) = (f x, each_all f xs)

pub each_map : {A B : Type 0} (P : A → Type 0) (Q : B → Type 0) (f : A → B) → ((x : A) → P x → Q (f x)) → (xs : List A) → Each P xs → Each Q (map f xs)
each_map P Q f on [] p = tt
each_map P Q f on (x ∷ xs) p = (on x (p.0), each_map P Q f on xs (p.1))

-- the item at a place, or None
pub each_or_nil : (P : Val → Type 0) → P Nil → (xs : List Val) (at : ℕ) → Each P xs → P (or_nil (slice_get xs at))
each_or_nil P nil [] at p = nil
each_or_nil P nil (x ∷ xs) zero p = p.0
each_or_nil P nil (x ∷ xs) (suc at) p = each_or_nil P nil xs at (p.1)

-- keys
-- ====

same_self : (k : Option PlainKey) → IsSome k → is_same_key k k ≡ true
same_self (Some NoneKey) h = refl
same_self (Some (NumberKey z)) h = int_eq_equiv.refl z
same_self (Some (TextKey s)) h = (bytes_eq-Decides s s).1 refl
same_self None h = cc

same_is : (j k : Option PlainKey) → is_same_key j k ≡ true → j ≡ k
same_is (Some NoneKey) (Some NoneKey) h = refl
same_is (Some (NumberKey y)) (Some (NumberKey z)) h = ap (λ (n : ℤ). Some (NumberKey n)) ((Decides-int_eq y z).0 h)
same_is (Some (TextKey s)) (Some (TextKey t)) h = ap (λ (text : List ℕ). Some (TextKey text)) ((bytes_eq-Decides s t).0 h)
same_is j k h = cc

-- two keys that aren't one aren't the other way round
not_same : (j k : Option PlainKey) → IsSome k → is_same_key j k ≡ false → is_same_key k j ≡ false
not_same j k some e = by (is_same_key k j) refl
  where
    by : (b : Bool) → is_same_key k j ≡ b → is_same_key k j ≡ false
    by false q = q
    by true q = absurd (false≢true (sym e ∙ ap (λ z. is_same_key z k) (sym (same_is k j q)) ∙ same_self k some))

module _ (h : PlainHeap) where
  -- a pair more, or another value
  pub each_with : (P : Val × Val → Type 0) (pairs : List (Val × Val)) (key v : Val) → ((p : Val × Val) → P p → P (p.0, v)) → P (key, v) → Each P pairs → Each P (with_key h pairs key v)
  each_with P [] key v other new q = (new, tt)
  each_with P (p ∷ pairs) key v other new q = by (has_key h key p) (each_with P pairs key v other new (q.1))
    where
      by : (b : Bool) → Each P (with_key h pairs key v) → Each P (cond b ((p.0, v) ∷ pairs) (p ∷ with_key h pairs key v))
      by true rest = (other p (q.0), q.1)
      by false rest = (q.0, rest)

  pub each_without : (P : Val × Val → Type 0) (pairs : List (Val × Val)) (key : Val) → Each P pairs → Each P (without_key h pairs key)
  each_without P [] key q = tt
  each_without P (p ∷ pairs) key q = by (has_key h key p) (each_without P pairs key (q.1))
    where
      by : (b : Bool) → Each P (without_key h pairs key) → Each P (cond b pairs (p ∷ without_key h pairs key))
      by true rest = q.1
      by false rest = (q.0, rest)

  pub differ_with : (pairs : List (Val × Val)) (key v : Val) → IsSome (key_of h key) → Differ h pairs → Differ h (with_key h pairs key v)
  differ_with [] key v some d = (tt, tt)
  differ_with (p ∷ pairs) key v some d = by (has_key h key p) refl (differ_with pairs key v some (d.1))
    where
      by : (b : Bool) → has_key h key p ≡ b → Differ h (with_key h pairs key v) → Differ h (cond b ((p.0, v) ∷ pairs) (p ∷ with_key h pairs key v))
      by true e rest = d
      by false e rest = (
        each_with (λ q. has_key h (p.0) q ≡ false) pairs key v (λ q other. other) (not_same (key_of h (p.0)) (key_of h key) some e) (d.0),
        rest,
      )

  pub differ_without : (pairs : List (Val × Val)) (key : Val) → Differ h pairs → Differ h (without_key h pairs key)
  differ_without [] key d = tt
  differ_without (p ∷ pairs) key d = by (has_key h key p) (differ_without pairs key (d.1))
    where
      by : (b : Bool) → Differ h (without_key h pairs key) → Differ h (cond b pairs (p ∷ without_key h pairs key))
      by true rest = d.1
      by false rest = (each_without (λ q. has_key h (p.0) q ≡ false) pairs key (d.0), rest)

  -- the value of a key is one of theirs
  pub each_value : (P : Val → Type 0) (pairs : List (Val × Val)) (key v : Val) → Each (λ p. P (p.1)) pairs → value_of_key h pairs key ≡ Some v → P v
  each_value P [] key v q e = absurd cc
  each_value P (p ∷ pairs) key v q e = by (has_key h key p) e (each_value P pairs key v (q.1))
    where
      by : (b : Bool) → cond b (Some (p.1)) (value_of_key h pairs key) ≡ Some v → (value_of_key h pairs key ≡ Some v → P v) → P v
      by true e2 rest = let same : p.1 ≡ v = cc in subst P same (q.0)
      by false e2 rest = rest e2
