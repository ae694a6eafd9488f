-- Pairs that are set and found by their keys.
use Rattle.std.proofs.Common.{◌≡◌, ℕ, List, [], ◌∷◌, Bool, true, false, Option, Some, None, refl, ap, ◌∙◌}
use Rattle.std.specs.Prelude.{IsSome, ℤ}
use Rattle.std.proofs.lemmas.Cmp.{int_eq_equiv}
use Rattle.std.proofs.lemmas.Bool.Decides.{Decides-int_eq}
use Rattle.std.proofs.lemmas.Slice.Eq.{bytes_eq-Decides}
use Rattle.mpy_base.specs.Val.{Val}
use Rattle.py_values.specs.Shown.{PlainHeap}
use Rattle.py_values.specs.Keys.{PlainKey, NoneKey, NumberKey, TextKey, key_of, is_same_key, has_key, value_of_key, with_key, without_key}

same_self : (k : Option PlainKey) → IsSome k → is_same_key k k ≡ true
same_self (Some NoneKey) h = refl
same_self (Some (NumberKey z)) h = int_eq_equiv.refl z
same_self (Some (TextKey s)) h = (bytes_eq-Decides s s).1 refl
same_self None h = cc

same_is : (j k : Option PlainKey) → is_same_key j k ≡ true → j ≡ k
same_is (Some NoneKey) (Some NoneKey) h = refl
same_is (Some (NumberKey y)) (Some (NumberKey z)) h = ap (λ (n : ℤ). Some (NumberKey n)) ((Decides-int_eq y z).0 h)
same_is (Some (TextKey s)) (Some (TextKey t)) h = ap (λ (text : List ℕ). Some (TextKey text)) ((bytes_eq-Decides s t).0 h)
same_is j k h = cc

found_by : (heap : PlainHeap) (pair : Val × Val) (pairs : List (Val × Val)) (key v : Val) (b : Bool) → has_key heap key pair ≡ b → value_of_key heap (with_key heap pairs key v) key ≡ Some v → value_of_key heap (with_key heap (pair ∷ pairs) key v) key ≡ Some v
found_by heap pair pairs key v true e rest = simp e
found_by heap pair pairs key v false e rest = simp e rest

-- what is set is found
pub set_is_found : (heap : PlainHeap) (pairs : List (Val × Val)) (key v : Val) → IsSome (key_of heap key) → value_of_key heap (with_key heap pairs key v) key ≡ Some v
set_is_found heap [] key v k = simp (same_self (key_of heap key) k)
set_is_found heap (pair ∷ pairs) key v k = found_by heap pair pairs key v (has_key heap key pair) refl (set_is_found heap pairs key v k)

-- a pair of one key hasn't another
differs : (heap : PlainHeap) (pair : Val × Val) (key other : Val) → has_key heap key pair ≡ true → is_same_key (key_of heap key) (key_of heap other) ≡ false → has_key heap other pair ≡ false
differs heap pair key other e d = ap (λ (k : Option PlainKey). is_same_key k (key_of heap other)) (same_is (key_of heap (pair.0)) (key_of heap key) e) ∙ d

other_by : (heap : PlainHeap) (pair : Val × Val) (pairs : List (Val × Val)) (key other v : Val) (b : Bool) → has_key heap key pair ≡ b → is_same_key (key_of heap key) (key_of heap other) ≡ false → value_of_key heap (with_key heap pairs key v) other ≡ value_of_key heap pairs other → value_of_key heap (with_key heap (pair ∷ pairs) key v) other ≡ value_of_key heap (pair ∷ pairs) other
other_by heap pair pairs key other v true e d rest = let f = differs heap pair key other e d in simp (e, f)
other_by heap pair pairs key other v false e d rest = simp (e, rest)

-- other keys keep their values
pub set_keeps_others : (heap : PlainHeap) (pairs : List (Val × Val)) (key other v : Val) → is_same_key (key_of heap key) (key_of heap other) ≡ false → value_of_key heap (with_key heap pairs key v) other ≡ value_of_key heap pairs other
set_keeps_others heap [] key other v d = simp d
set_keeps_others heap (pair ∷ pairs) key other v d = other_by heap pair pairs key other v (has_key heap key pair) refl d (set_keeps_others heap pairs key other v d)

gone_by : (heap : PlainHeap) (pair : Val × Val) (pairs : List (Val × Val)) (key other : Val) (b : Bool) → has_key heap key pair ≡ b → is_same_key (key_of heap key) (key_of heap other) ≡ false → value_of_key heap (without_key heap pairs key) other ≡ value_of_key heap pairs other → value_of_key heap (without_key heap (pair ∷ pairs) key) other ≡ value_of_key heap (pair ∷ pairs) other
gone_by heap pair pairs key other true e d rest = let f = differs heap pair key other e d in simp (e, f)
gone_by heap pair pairs key other false e d rest = simp (e, rest)

-- and so they do where a key is deleted
pub deletion_keeps_others : (heap : PlainHeap) (pairs : List (Val × Val)) (key other : Val) → is_same_key (key_of heap key) (key_of heap other) ≡ false → value_of_key heap (without_key heap pairs key) other ≡ value_of_key heap pairs other
deletion_keeps_others heap [] key other d = refl
deletion_keeps_others heap (pair ∷ pairs) key other d = gone_by heap pair pairs key other (has_key heap key pair) refl d (deletion_keeps_others heap pairs key other d)
