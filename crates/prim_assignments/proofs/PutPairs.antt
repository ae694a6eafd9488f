-- Pairs that are set, as the meaning has them.
use Rattle.std.proofs.Common.{◌≡◌, ◌+◌, ◌<◌, ◌≤◌, ◌⊎◌, ℕ, zero, suc, ℤ, List, [], ◌∷◌, ◌++◌, length, map, get_or, Bool, true, false, cond, Option, Some, None, refl, sym, ap, ◌∙◌, inl, inr, arith, length-set}
use Rattle.std.specs.Ordering.{int_eq}
use Rattle.std.specs.Prelude.{bytes_eq}
use Rattle.std.proofs.lemmas.Bool.Decides.{Decides-int_eq}
use Rattle.std.proofs.lemmas.List.{length-map, length_push}
use Rattle.std.proofs.lemmas.Slice.Eq.{bytes_eq-Decides}
use Rattle.prim_operators.specs.arena_heap.declared.value.Value.{Value}
use Rattle.prim_operators.specs.arena_heap.declared.value.StrNo.{StrNo}
use Rattle.prim_operators.specs.arena_heap.declared.value.ConstNo.{ConstNo}
use Rattle.prim_operators.specs.mpy_base.World.{DictObject, Heap, ADict, IsA, object, kind_of, pairs_of, room_of, pairs_at, room_at, with_dict}
use Rattle.prim_operators.specs.mpy_base.Weights.{Fits, does_fit, dict_growth, with_pairs}
use Rattle.prim_operators.specs.mpy_base.Val.{Val, Nil}
use Rattle.prim_operators.specs.arena_heap.Values.{ArenaObject, IsWithinRoom}
use Rattle.prim_operators.specs.arena_heap.Dicts.{with_value}
use Rattle.prim_operators.specs.arena_objects.Keys as arena
use Rattle.prim_operators.specs.arena_objects.Keys.{key_in}
use Rattle.prim_operators.specs.py_values.Shown.{PlainHeap}
use Rattle.prim_operators.specs.py_values.Keys.{PlainKey, NoneKey, NumberKey, TextKey, with_key}
use Rattle.prim_operators.specs.py_primitives.Outcome.{gives, is_full}
use Rattle.prim_operators.specs.py_primitives.Uses.{put_pair}
use Rattle.prim_operators.specs.prim_walks.Plain.{plain, plain_pair, plain_heap}
use Rattle.prim_operators.proofs.prim_faults_lemmas.Heaps.{fit_plain, pairs_of_plain, room_of_plain}
use Rattle.prim_operators.proofs.prim_faults_lemmas.Outcomes.{fits_true, fits_false}
use Rattle.prim_operators.proofs.DictKeys.{IsKnownKey, Each, Stands, Misses, with_at, with_new}
use Rattle.prim_assignments.proofs.Growths.{no_growth, pairs_kept, dict_growth_plain, pairs_put}

-- keys that are equal, or not
numbers : (y z : ℤ) (b : Bool) → int_eq y z ≡ b → (Some (NumberKey y) ≡ Some (NumberKey z)) ⊎ (Some (NumberKey y) ≡ Some (NumberKey z) → ⊥)
numbers y z true e = inl (ap (λ (n : ℤ). Some (NumberKey n)) ((Decides-int_eq y z).0 e))
numbers y z false e = inr (λ q. let same : y ≡ z = cc in let is = (Decides-int_eq y z).1 same in cc)

letters : (s t : List ℕ) (b : Bool) → bytes_eq s t ≡ b → (Some (TextKey s) ≡ Some (TextKey t)) ⊎ (Some (TextKey s) ≡ Some (TextKey t) → ⊥)
letters s t true e = inl (ap (λ (text : List ℕ). Some (TextKey text)) ((bytes_eq-Decides s t).0 e))
letters s t false e = inr (λ q. let same : s ≡ t = cc in let is = (bytes_eq-Decides s t).1 same in cc)

same_or_other : (j k : Option PlainKey) → (j ≡ k) ⊎ (j ≡ k → ⊥)
same_or_other (Some NoneKey) (Some NoneKey) = inl refl
same_or_other (Some (NumberKey y)) (Some (NumberKey z)) = numbers y z (int_eq y z) refl
same_or_other (Some (TextKey s)) (Some (TextKey t)) = letters s t (bytes_eq s t) refl
same_or_other None None = inl refl
same_or_other _ _ = inr (λ e. cc)

module _ (texts : StrNo → Option (List ℕ)) (tuples : ConstNo → Option (List Value)) (h : Heap Value ℕ) (key : Value) (known : IsKnownKey texts tuples h key) where
  -- the pair of a key stands somewhere
  pub record Found (pairs : List (Value × Value)) : Type 0 where
    pub at : ℕ
    pub stands : Stands texts tuples h key known pairs at

  one_more : (pair : Value × Value) (pairs : List (Value × Value)) → (arena.key_of texts h pair.0 ≡ arena.key_of texts h key → ⊥)
      → Found pairs ⊎ Misses texts tuples h key known pairs → Found (pair ∷ pairs) ⊎ Misses texts tuples h key known (pair ∷ pairs)
  one_more pair pairs other (inl f) = inl (record {
    at = suc f.at;
    stands = record {
      within = let w = f.stands.within in omega arith;
      equal = f.stands.equal;
      first = λ k. elim k as (λ j. j < suc f.at → arena.key_of texts h (key_in (pair ∷ pairs) j) ≡ arena.key_of texts h key → ⊥) [
        | zero ↦ λ lt. other
        | suc j ↦ λ lt. f.stands.first j (omega arith)
      ];
    };
  })
  one_more pair pairs other (inr misses) = inr (λ k. elim k as (λ j. j < length (pair ∷ pairs) → arena.key_of texts h (key_in (pair ∷ pairs) j) ≡ arena.key_of texts h key → ⊥) [
    | zero ↦ λ lt. other
    | suc j ↦ λ lt. misses j (omega arith)
  ])

  pub found_or_missed : (pairs : List (Value × Value)) → Found pairs ⊎ Misses texts tuples h key known pairs
  found_or_missed [] = inr (λ k lt. absurd (omega arith))
  found_or_missed (pair ∷ pairs) = elim (same_or_other (arena.key_of texts h pair.0) (arena.key_of texts h key)) [
    | inl same ↦ inl (record { at = zero; stands = record { within = omega arith; equal = same; first = λ k lt. absurd (omega arith) } })
    | inr other ↦ one_more pair pairs other (found_or_missed pairs)
  ]

-- by the pairs that the dict is to hold
module _ (heap : PlainHeap) (d : ℕ) (key v : Val) (pairs : List (Val × Val)) (e : with_key heap (pairs_at heap d) key v ≡ pairs) where
  put_by : (b : Bool) → does_fit heap (dict_growth heap d (length pairs)) 0 ≡ b
      → put_pair heap d key v ≡ cond b (gives Nil (with_pairs heap d pairs)) (is_full heap (dict_growth heap d (length pairs)) 0)
  put_by b fits =
      ap (λ (ps : List (Val × Val)). cond (does_fit heap (dict_growth heap d (length ps)) 0) (gives Nil (with_pairs heap d ps)) (is_full heap (dict_growth heap d (length ps)) 0)) e
      ∙ ap (λ (c : Bool). cond c (gives Nil (with_pairs heap d pairs)) (is_full heap (dict_growth heap d (length pairs)) 0)) fits

within_room : (o : Option ArenaObject) → kind_of o ≡ Some ADict → IsWithinRoom o → length (pairs_of o) ≤ room_of o
within_room (Some (DictObject pairs room)) is holds = holds
within_room _ is holds = absurd cc

module _ (texts : StrNo → Option (List ℕ)) (tuples : ConstNo → Option (List Value)) (h : Heap Value ℕ) (d : ℕ) (key v : Value) (known : IsKnownKey texts tuples h key)
    (each : Each texts tuples h key known (pairs_at h d)) where
  -- a key that is there keeps its pair's place
  pub put_there : (at : ℕ) → Stands texts tuples h key known (pairs_at h d) at → IsA h.objects ADict d → IsWithinRoom (object h.objects d) → Fits h 0 0
      → put_pair (plain_heap texts tuples h) d (plain texts tuples key) (plain texts tuples v) ≡ gives Nil (plain_heap texts tuples (with_dict h d (with_value (pairs_at h d) at v)))
  put_there at stands is holds fits =
      let heap = plain_heap texts tuples h in
      let pairs = pairs_at h d in
      let next = with_value pairs at v in
      let plain_next = map (plain_pair texts tuples) next in
      let now : with_key heap (pairs_at heap d) (plain texts tuples key) (plain texts tuples v) ≡ plain_next =
      ap (λ (ps : List (Val × Val)). with_key heap ps (plain texts tuples key) (plain texts tuples v)) (pairs_of_plain texts tuples h d) ∙ with_at texts tuples h key known pairs at v each stands in
      let as_many : length next ≡ length pairs = length-set pairs at ((get_or pairs at (v, v)).0, v) in
      let few : length next ≤ room_at h d = omega (arith, as_many, within_room (object h.objects d) is holds) in
      let plain_few : length plain_next ≤ room_at heap d = omega (arith, few, length-map next (plain_pair texts tuples), room_of_plain texts tuples h d) in
      let fit : does_fit heap (dict_growth heap d (length plain_next)) 0 ≡ true =
      ap (λ (cells : ℕ). does_fit heap cells 0) (no_growth heap d (length plain_next) plain_few) ∙ (fit_plain texts tuples h 0 0 ∙ fits_true h 0 0 fits) in
      put_by heap d (plain texts tuples key) (plain texts tuples v) plain_next now true fit
      ∙ ap (λ (w : PlainHeap). gives Nil w) (sym (pairs_put texts tuples h d next) ∙ ap (plain_heap texts tuples) (pairs_kept h d next few))

  module _ (misses : Misses texts tuples h key known (pairs_at h d)) where
    new_pairs : with_key (plain_heap texts tuples h) (pairs_at (plain_heap texts tuples h) d) (plain texts tuples key) (plain texts tuples v) ≡ map (plain_pair texts tuples) (pairs_at h d ++ (key, v) ∷ [])
    new_pairs =
        ap (λ (ps : List (Val × Val)). with_key (plain_heap texts tuples h) ps (plain texts tuples key) (plain texts tuples v)) (pairs_of_plain texts tuples h d)
        ∙ with_new texts tuples h key known (pairs_at h d) v each misses

    new_growth : dict_growth (plain_heap texts tuples h) d (length (map (plain_pair texts tuples) (pairs_at h d ++ (key, v) ∷ []))) ≡ dict_growth h d (length (pairs_at h d) + 1)
    new_growth =
        dict_growth_plain texts tuples h d _
        ∙ ap (λ (k : ℕ). dict_growth h d k) (length-map (pairs_at h d ++ (key, v) ∷ []) (plain_pair texts tuples) ∙ length_push (pairs_at h d) (key, v))

    new_fit : (b : Bool) → does_fit h (dict_growth h d (length (pairs_at h d) + 1)) 0 ≡ b
        → does_fit (plain_heap texts tuples h) (dict_growth (plain_heap texts tuples h) d (length (map (plain_pair texts tuples) (pairs_at h d ++ (key, v) ∷ [])))) 0 ≡ b
    new_fit b e = ap (λ (cells : ℕ). does_fit (plain_heap texts tuples h) cells 0) new_growth ∙ (fit_plain texts tuples h _ 0 ∙ e)

    -- a new key stands behind the others
    pub put_new : Fits h (dict_growth h d (length (pairs_at h d) + 1)) 0
        → put_pair (plain_heap texts tuples h) d (plain texts tuples key) (plain texts tuples v) ≡ gives Nil (plain_heap texts tuples (with_pairs h d (pairs_at h d ++ (key, v) ∷ [])))
    put_new fits =
        put_by (plain_heap texts tuples h) d (plain texts tuples key) (plain texts tuples v) _ new_pairs true (new_fit true (fits_true h _ 0 fits))
        ∙ ap (λ (w : PlainHeap). gives Nil w) (sym (pairs_put texts tuples h d (pairs_at h d ++ (key, v) ∷ [])))

    pub put_refused : (Fits h (dict_growth h d (length (pairs_at h d) + 1)) 0 → ⊥)
        → put_pair (plain_heap texts tuples h) d (plain texts tuples key) (plain texts tuples v) ≡ is_full (plain_heap texts tuples h) (dict_growth h d (length (pairs_at h d) + 1)) 0
    put_refused unfit =
        let unfits = fits_false h (dict_growth h d (length (pairs_at h d) + 1)) 0 unfit in
        put_by (plain_heap texts tuples h) d (plain texts tuples key) (plain texts tuples v) _ new_pairs false (new_fit false unfits)
        ∙ ap (λ (cells : ℕ). is_full {A = Val} (plain_heap texts tuples h) cells 0) new_growth
