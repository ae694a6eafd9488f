-- What is told of the values that objects hold.
use Rattle.std.proofs.Common.{ℕ, zero, suc, ◌<◌, ◌≡◌, List, [], ◌∷◌, ◌++◌, length, Option, Some, None, get_or, set, map, take, drop, replicate, refl, sym, ◌-◌, ◌∙◌, subst, inl, inr, arith, get_or-set_same, get_or-set_other, length-append}
use Rattle.std.specs.List.{All, remove}
use Rattle.std.specs.Prelude.{slice_get}
use Rattle.std.proofs.lemmas.List.{take_at, drop_at, length-map, get_or-map, get_or_append_left, get_or-append_right}
use Rattle.std.proofs.lemmas.List.Elements.{All-append, All-take, All-drop, All-map, All-set, All-push, All-nil}
use Rattle.std.proofs.lemmas.Bool.{cases_eq, cases_lt}
use Rattle.arena_heap.specs.declared.value.Value.{Value}
use Rattle.arena_heap.specs.declared.value.StrNo.{StrNo}
use Rattle.arena_heap.specs.declared.value.ConstNo.{ConstNo}
use Rattle.py_values.specs.mpy_base.World.{Heap, ListObject, TupleObject, DictObject, AList, ATuple, ADict, IsA, object, kind_of, items_of, items_at, pairs_of, pairs_at, room_at, with_list, with_dict}
use Rattle.py_values.specs.mpy_base.Weights.{Made, more_cells, with_made, with_pairs, with_list_room, list_growth, dict_growth, grown_room}
use Rattle.py_values.proofs.mpy_base_lemmas.Worlds.{object_nones, is_within}
use Rattle.arena_heap.specs.Values.{ArenaObject, held}
use Rattle.arena_heap.specs.Constants.{IsTold}
use Rattle.arena_heap.specs.Dicts.{with_value}
use Rattle.arena_objects.specs.Keys.{AllTold}
use Rattle.arena_objects.proofs.Places.{no_pair, read_pair}

all_unmap : {X Y : Type 0} (P : Y → Type 0) (f : X → Y) (xs : List X) → All P (map f xs) → All (λ x. P (f x)) xs
all_unmap P f xs all k d h = let l = length-map xs f in subst P (get_or-map f xs k d (f d) h) (all k (f d) (omega arith))

-- of the key and the value of each pair
abbrev pub Both : (Value → Type 0) → Value × Value → Type 0
Both P p = P p.0 × P p.1

each_pair : (P : Value → Type 0) (o : Option ArenaObject) → kind_of o ≡ Some ADict → All P (held o) → All (Both P) (pairs_of o)
each_pair P (Some (DictObject pairs room)) q all =
    let ks : List Value = map (λ (p : Value × Value). p.0) pairs in
    let vs : List Value = map (λ (p : Value × Value). p.1) pairs in
    let keys = all_unmap P (λ (p : Value × Value). p.0) pairs (subst (All P) (take_at ks vs (length ks) refl) (All-take P (length ks) (ks ++ vs) all)) in
    let values = all_unmap P (λ (p : Value × Value). p.1) pairs (subst (All P) (drop_at ks vs (length ks) refl) (All-drop P (length ks) (ks ++ vs) all)) in
    λ k d h. (keys k d h, values k d h)
each_pair P _ q all = absurd cc

pairs_held : (P : Value → Type 0) (pairs : List (Value × Value)) (room : ℕ) → All (Both P) pairs → All P (held (Some (DictObject pairs room)))
pairs_held P pairs room all =
    All-append P (map (λ (p : Value × Value). p.0) pairs) (map (λ (p : Value × Value). p.1) pairs)
    (All-map P (λ (p : Value × Value). p.0) pairs (λ k d h. (all k d h).0)) (All-map P (λ (p : Value × Value). p.1) pairs (λ k d h. (all k d h).1))

-- cells that belong to no new object hold nothing
pub told_used : (texts : StrNo → Option (List ℕ)) (tuples : ConstNo → Option (List Value)) (obs : List (Option ArenaObject)) → AllTold texts tuples obs → (cells : ℕ) → AllTold texts tuples (obs ++ replicate cells None)
told_used texts tuples obs all cells =
    let none : Option ArenaObject = None in
    let more = replicate cells none in
    record {
      told = λ m. elim (cases_lt m (length obs)) [
        | inl lt ↦ subst (λ (o : Option ArenaObject). All (IsTold texts tuples) (held o)) (sym (get_or_append_left obs more none m lt)) (all.told m)
        | inr ge ↦ subst (λ (o : Option ArenaObject). All (IsTold texts tuples) (held o))
            (sym (get_or-append_right obs more (length obs) m none refl ge ∙ object_nones cells (m - length obs))) (All-nil (IsTold texts tuples))
      ];
    }

module _ (texts : StrNo → Option (List ℕ)) (tuples : ConstNo → Option (List Value)) (h : Heap Value ℕ) (n : ℕ) (is : IsA h.objects ADict n) (all : AllTold texts tuples h.objects) where
  -- the keys and the values of a dict are told
  pub told_pairs : All (Both (IsTold texts tuples)) (pairs_at h n)
  told_pairs = each_pair (IsTold texts tuples) (object h.objects n) is (all.told n)

  pub told_read : (at : ℕ) (k v : Value) → Some (k, v) ≡ slice_get (pairs_at h n) at → IsTold texts tuples v
  told_read at k v e =
      let read = read_pair (pairs_at h n) at (k, v) e in
      subst (λ (p : Value × Value). IsTold texts tuples p.1) (sym (read.1 no_pair)) (told_pairs at no_pair read.0).1

  told_set : (obs : List (Option ArenaObject)) → AllTold texts tuples obs → n < length obs → (pairs : List (Value × Value)) (room : ℕ) → All (Both (IsTold texts tuples)) pairs
      → AllTold texts tuples (set obs n (Some (DictObject pairs room)))
  told_set obs was low pairs room t =
      let o : Option ArenaObject = Some (DictObject pairs room) in
      record {
        told = λ m. elim (cases_eq m n) [
          | inl q ↦ subst (λ (o : Option ArenaObject). All (IsTold texts tuples) (held o)) (sym (subst (λ (j : ℕ). object (set obs n o) j ≡ o) (sym q) (get_or-set_same obs n o None low))) (pairs_held (IsTold texts tuples) pairs room t)
          | inr ne ↦ subst (λ (o : Option ArenaObject). All (IsTold texts tuples) (held o)) (sym (get_or-set_other obs n m o None ne)) (was.told m)
        ];
      }

  -- the same after a change of the pairs
  pub told_dict : (pairs : List (Value × Value)) → All (Both (IsTold texts tuples)) pairs → AllTold texts tuples (with_dict h n pairs).objects
  told_dict pairs t = told_set h.objects all (is_within h.objects ADict n is) pairs (room_at h n) t

  pub told_with_pairs : (pairs : List (Value × Value)) → All (Both (IsTold texts tuples)) pairs → AllTold texts tuples (with_pairs h n pairs).objects
  told_with_pairs pairs t =
      let none : Option ArenaObject = None in
      let more = replicate (dict_growth h n (length pairs)) none in
      let low = is_within h.objects ADict n is in
      let used = told_used texts tuples h.objects all (dict_growth h n (length pairs)) in
      told_set (h.objects ++ more) used (omega (arith, length-append h.objects more)) pairs (grown_room h n (length pairs)) t

  pub told_with_value : (at : ℕ) (v : Value) → at < length (pairs_at h n) → IsTold texts tuples v → All (Both (IsTold texts tuples)) (with_value (pairs_at h n) at v)
  told_with_value at v lt t = All-set (Both (IsTold texts tuples)) (pairs_at h n) at ((get_or (pairs_at h n) at (v, v)).0, v) ((told_pairs at (v, v) lt).0, t) told_pairs

  pub told_pushed : (key v : Value) → IsTold texts tuples key → IsTold texts tuples v → All (Both (IsTold texts tuples)) (pairs_at h n ++ (key, v) ∷ [])
  told_pushed key v k t = All-push (Both (IsTold texts tuples)) (pairs_at h n) (key, v) told_pairs (k, t)

  pub told_removed : (at : ℕ) → All (Both (IsTold texts tuples)) (remove (pairs_at h n) at)
  told_removed at =
      All-append (Both (IsTold texts tuples)) (take at (pairs_at h n)) (drop (suc at) (pairs_at h n)) (All-take (Both (IsTold texts tuples)) at (pairs_at h n) told_pairs)
      (All-drop (Both (IsTold texts tuples)) (suc at) (pairs_at h n) told_pairs)

pub told_nothing : (texts : StrNo → Option (List ℕ)) (tuples : ConstNo → Option (List Value)) → AllTold texts tuples []
told_nothing texts tuples = record { told = λ n. All-nil (IsTold texts tuples) }

-- an object whose values are told
pub told_with_made : (texts : StrNo → Option (List ℕ)) (tuples : ConstNo → Option (List Value)) (h : Heap Value ℕ) (o : ArenaObject) → AllTold texts tuples h.objects
    → All (IsTold texts tuples) (held (Some o)) → AllTold texts tuples (with_made h o).objects
told_with_made texts tuples h o all t =
    let none : Option ArenaObject = None in
    let obs = h.objects in
    let more = Some o ∷ replicate (more_cells o) none in
    let each : (k : ℕ) → All (IsTold texts tuples) (held (object more k)) = λ k. elim k as (λ j. All (IsTold texts tuples) (held (object more j))) [
      | zero ↦ t
      | suc j ↦ subst (λ (x : Option ArenaObject). All (IsTold texts tuples) (held x)) (sym (object_nones (more_cells o) j)) (All-nil (IsTold texts tuples))
    ] in
    record {
      told = λ m. elim (cases_lt m (length obs)) [
        | inl lt ↦ subst (λ (x : Option ArenaObject). All (IsTold texts tuples) (held x)) (sym (get_or_append_left obs more none m lt)) (all.told m)
        | inr ge ↦ subst (λ (x : Option ArenaObject). All (IsTold texts tuples) (held x)) (sym (get_or-append_right obs more (length obs) m none refl ge)) (each (m - length obs))
      ];
    }

pub told_made : (texts : StrNo → Option (List ℕ)) (tuples : ConstNo → Option (List Value)) {old new : Heap Value ℕ} {n : ℕ} {o : ArenaObject} → Made old new n o → AllTold texts tuples old.objects
    → All (IsTold texts tuples) (held (Some o)) → AllTold texts tuples new.objects
told_made texts tuples {old} {new} {n} {o} made all t = subst (λ (w : Heap Value ℕ). AllTold texts tuples w.objects) (sym made.world) (told_with_made texts tuples old o all t)

-- another list in the place of one
told_list_set : (texts : StrNo → Option (List ℕ)) (tuples : ConstNo → Option (List Value)) (obs : List (Option ArenaObject)) → AllTold texts tuples obs → (n : ℕ) → n < length obs → (items : List Value) (room : ℕ)
    → All (IsTold texts tuples) items → AllTold texts tuples (set obs n (Some (ListObject items room)))
told_list_set texts tuples obs was n low items room t =
    let o : Option ArenaObject = Some (ListObject items room) in
    record {
      told = λ m. elim (cases_eq m n) [
        | inl q ↦ subst (λ (o : Option ArenaObject). All (IsTold texts tuples) (held o)) (sym (subst (λ (j : ℕ). object (set obs n o) j ≡ o) (sym q) (get_or-set_same obs n o None low))) t
        | inr ne ↦ subst (λ (o : Option ArenaObject). All (IsTold texts tuples) (held o)) (sym (get_or-set_other obs n m o None ne)) (was.told m)
      ];
    }

-- the values of a list or tuple are its items
pub held_list : (P : Value → Type 0) (o : Option ArenaObject) → kind_of o ≡ Some AList → All P (held o) → All P (items_of o)
held_list P (Some (ListObject items room)) q all = all
held_list P _ q all = absurd cc

pub held_tuple : (P : Value → Type 0) (o : Option ArenaObject) → kind_of o ≡ Some ATuple → All P (held o) → All P (items_of o)
held_tuple P (Some (TupleObject items)) q all = all
held_tuple P _ q all = absurd cc

module _ (texts : StrNo → Option (List ℕ)) (tuples : ConstNo → Option (List Value)) (h : Heap Value ℕ) (n : ℕ) (is : IsA h.objects AList n) (all : AllTold texts tuples h.objects) where
  pub told_items : All (IsTold texts tuples) (items_at h n)
  told_items = held_list (IsTold texts tuples) (object h.objects n) is (all.told n)

  -- a list with more items
  pub told_list : (items : List Value) → All (IsTold texts tuples) items → AllTold texts tuples (with_list h n (items_at h n ++ items)).objects
  told_list items t =
      told_list_set texts tuples h.objects all n (is_within h.objects AList n is) (items_at h n ++ items) (room_at h n) (All-append (IsTold texts tuples) (items_at h n) items told_items t)

  -- a list with more room
  pub told_room : (items : ℕ) → AllTold texts tuples (with_list_room h n items).objects
  told_room items =
      let none : Option ArenaObject = None in
      let low = is_within h.objects AList n is in
      told_list_set texts tuples (h.objects ++ replicate (list_growth h n items) none) (told_used texts tuples h.objects all (list_growth h n items)) n
      (omega (arith, length-append h.objects (replicate (list_growth h n items) none))) (items_at h n) (grown_room h n items) told_items
