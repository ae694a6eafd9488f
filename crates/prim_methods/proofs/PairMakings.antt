-- Tuples that are made of the pairs of a dict, and a list that takes them.
use Rattle.std.proofs.Common.{◌≡◌, ℕ, zero, suc, ◌+◌, ◌*◌, ◌<◌, List, [], ◌∷◌, length, map, take, set, get_or, replicate, Bool, cond, Option, Some, None, Ok, refl, sym, ap, ap₂, ◌∙◌, subst, arith, length-append, get_or-set_same}
use Rattle.std.specs.Prelude.{slice_get}
use Rattle.std.specs.List.{range_with_len, All}
use Rattle.std.proofs.Math.Seq.{take-suc}
use Rattle.std.proofs.lemmas.List.{set-set, get_or_append_left, get_or_at, length-take-le}
use Rattle.std.proofs.lemmas.List.Sums.{fold-append}
use Rattle.std.proofs.lemmas.List.FromFn.{length-map-range_with_len, get_or-map-range_with_len}
use Rattle.std.proofs.lemmas.List.Elements.{All-nil, All-cons}
use Rattle.std.proofs.lemmas.Option.{slice_get-get_or}
use Rattle.mpy_base.specs.World.{Object, ListObject, TupleObject, Heap, AList, ATuple, IsA, Later, object, kind_of, items_of, items_at, room_at, with_list, with_tuple}
use Rattle.mpy_base.specs.Weights.{Fits, Made, used, room_for, with_made}
use Rattle.mpy_base.specs.Val.{Val, At}
use Rattle.mpy_base.proofs.Worlds.{later_append, later_later, later_same, later_list, later_made, object_made, is_within}
use Rattle.prim_assignments.specs.arena_heap.declared.value.Value.{Value}
use Rattle.prim_assignments.specs.arena_heap.declared.value.Value.TheVariants as values
use Rattle.prim_assignments.specs.arena_heap.declared.value.StrNo.{StrNo}
use Rattle.prim_assignments.specs.arena_heap.declared.value.ConstNo.{ConstNo}
use Rattle.prim_assignments.specs.arena_heap.declared.value.ListNo.{ListNo}
use Rattle.prim_assignments.specs.arena_heap.Values.{ArenaObject}
use Rattle.prim_assignments.specs.arena_heap.Constants.{IsTold}
use Rattle.prim_assignments.specs.arena_objects.Keys.{AllTold}
use Rattle.prim_assignments.proofs.arena_objects_lemmas.Places.{no_pair}
use Rattle.prim_assignments.proofs.arena_objects_lemmas.Tolds.{Both, told_with_made}
use Rattle.prim_builtins.specs.py_values.Shown.{PlainHeap}
use Rattle.prim_builtins.specs.py_primitives.Outcome.{Outcome, gives, is_full, with_visits, followed_by, making_tuple, list_of}
use Rattle.prim_builtins.specs.py_primitives.Methods.{making_pairs}
use Rattle.prim_assignments.specs.prim_walks.Plain.{plain, plain_pair, plain_heap}
use Rattle.prim_assignments.specs.prim_faults.Outcomes.{IsOutcome}
use Rattle.prim_assignments.proofs.prim_faults_lemmas.Heaps.{used_plain, fit_plain, made_plain, list_put}
use Rattle.prim_assignments.proofs.prim_faults_lemmas.Outcomes.{fits_true, fits_false}
use Rattle.prim_assignments.proofs.prim_operators_lemmas.ItemFills.{told_put, tuple_made}
use Rattle.prim_methods.specs.PairTuples.{pair_object, with_tuples, tuples_from}

abbrev pub tuple_more : Heap Value ℕ → Value × Value → Heap Value ℕ
tuple_more h pair = with_made h (pair_object pair)

used_more : (h : Heap Value ℕ) (pair : Value × Value) → used (tuple_more h pair) ≡ used h + 3
used_more h pair = let none : Option ArenaObject = None in length-append h.objects (Some (pair_object pair) ∷ replicate 2 none)

pub tuples_later : (h : Heap Value ℕ) (pairs : List (Value × Value)) → Later h.objects (with_tuples h pairs).objects
tuples_later h [] = later_same h.objects
tuples_later h (pair ∷ pairs) =
    let none : Option ArenaObject = None in
    later_later (later_append h.objects (Some (pair_object pair) ∷ replicate 2 none)) (tuples_later (tuple_more h pair) pairs)

-- an object that was there is the same one
pub tuples_same : (h : Heap Value ℕ) (pairs : List (Value × Value)) (n : ℕ) → n < length h.objects → object (with_tuples h pairs).objects n ≡ object h.objects n
tuples_same h [] n lt = refl
tuples_same h (pair ∷ pairs) n lt =
    let none : Option ArenaObject = None in
    tuples_same (tuple_more h pair) pairs n (omega (arith, used_more h pair)) ∙ get_or_append_left h.objects (Some (pair_object pair) ∷ replicate 2 none) none n lt

pub tuples_used : (h : Heap Value ℕ) (pairs : List (Value × Value)) → used (with_tuples h pairs) ≡ used h + 3 * length pairs
tuples_used h [] = omega arith
tuples_used h (pair ∷ pairs) = omega (arith, tuples_used (tuple_more h pair) pairs, used_more h pair)

tuples_sizes : (h : Heap Value ℕ) (pairs : List (Value × Value)) → ((with_tuples h pairs).bytes ≡ h.bytes) × ((with_tuples h pairs).cell_size ≡ h.cell_size) × ((with_tuples h pairs).byte_size ≡ h.byte_size)
tuples_sizes h [] = (refl, refl, refl)
tuples_sizes h (pair ∷ pairs) =
    let rest = tuples_sizes (tuple_more h pair) pairs in
    let same : (tuple_more h pair).bytes ≡ h.bytes = omega arith in
    (rest.0 ∙ same, rest.1, rest.2)

pub tuples_are : (h : Heap Value ℕ) (pairs : List (Value × Value)) (k : ℕ) → k < length pairs → IsA (with_tuples h pairs).objects ATuple (used h + 3 * k)
tuples_are h [] k lt = absurd (omega arith)
tuples_are h (pair ∷ pairs) zero lt =
    let none : Option ArenaObject = None in
    (tuples_later (tuple_more h pair) pairs).keeps ATuple (used h + 3 * 0) (ap kind_of (get_or_at h.objects (Some (pair_object pair)) (replicate 2 none) none (used h + 3 * 0) (omega arith)))
tuples_are h (pair ∷ pairs) (suc k) lt =
    let same : used (tuple_more h pair) + 3 * k ≡ used h + 3 * suc k = omega (arith, used_more h pair) in
    subst (λ (n : ℕ). IsA (with_tuples h (pair ∷ pairs)).objects ATuple n) same (tuples_are (tuple_more h pair) pairs k (omega arith))

-- one tuple more
pub next_tuple : (h a new : Heap Value ℕ) (n : ℕ) (pairs : List (Value × Value)) (k : ℕ) (pair : Value × Value) → k < length pairs → pair ≡ get_or pairs k no_pair → a ≡ with_tuples h (take k pairs) → Made a new n (pair_object pair)
    → new ≡ with_tuples h (take (k + 1) pairs)
next_tuple h a new n pairs k pair lt eb ea m =
    let one : k + 1 ≡ suc k = omega arith in
    let step : Heap Value ℕ → Value × Value → Heap Value ℕ = λ w b. tuple_more w b in
    m.world ∙ (ap (λ (w : Heap Value ℕ). tuple_more w pair) ea ∙ (ap (λ (b : Value × Value). tuple_more (with_tuples h (take k pairs)) b) eb
    ∙ (sym (fold-append step h (take k pairs) (get_or pairs k no_pair ∷ [])) ∙ ap (λ (bs : List (Value × Value)). with_tuples h bs) (sym (ap (λ (j : ℕ). take j pairs) one ∙ take-suc pairs k no_pair lt)))))

pub next_fits : (h a new : Heap Value ℕ) (n : ℕ) (pairs : List (Value × Value)) (k : ℕ) (pair : Value × Value) → k < length pairs → a ≡ with_tuples h (take k pairs) → Made a new n (pair_object pair) → Fits h (3 * (k + 1)) 0
next_fits h a new n pairs k pair lt ea m =
    let f : Fits (with_tuples h (take k pairs)) 3 0 = subst (λ (w : Heap Value ℕ). Fits w 3 0) ea m.fits in
    let sizes = tuples_sizes h (take k pairs) in
    let len : length (take k pairs) ≡ k = length-take-le k pairs (omega arith) in
    record {
      cells_fit = omega (arith, f.cells_fit, tuples_used h (take k pairs), sizes.1, len);
      bytes_fit = omega (arith, f.bytes_fit, sizes.0, sizes.2);
    }

-- two items that are filled in
filled_once : {old made a : Heap Value ℕ} {t : ℕ} (key : Value) → Made old made t (TupleObject (values.None ∷ values.None ∷ [])) → a ≡ with_tuple made t (set (items_at made t) 0 key)
    → a ≡ with_tuple made t (key ∷ values.None ∷ [])
filled_once {old} {made} {a} {t} key m e = e ∙ ap (λ (o : Option ArenaObject). with_tuple made t (set (items_of o) 0 key)) (object_made m)

there_once : {old made a : Heap Value ℕ} {t : ℕ} (key : Value) → Made old made t (TupleObject (values.None ∷ values.None ∷ [])) → a ≡ with_tuple made t (set (items_at made t) 0 key)
    → items_at a t ≡ key ∷ values.None ∷ []
there_once {old} {made} {a} {t} key m e =
    let o : ArenaObject = TupleObject (key ∷ values.None ∷ []) in
    ap (λ (w : Heap Value ℕ). items_at w t) (filled_once key m e) ∙ ap items_of (get_or-set_same made.objects t (Some o) None (is_within made.objects ATuple t (ap kind_of (object_made m))))

pub pair_filled : {old made a b : Heap Value ℕ} {t : ℕ} (key v : Value) → Made old made t (TupleObject (values.None ∷ values.None ∷ [])) → a ≡ with_tuple made t (set (items_at made t) 0 key)
    → b ≡ with_tuple a t (set (items_at a t) 1 v) → Made old b (used old) (TupleObject (key ∷ v ∷ []))
pair_filled {old} {made} {a} {b} {t} key v m e f =
    let once : ArenaObject = TupleObject (key ∷ values.None ∷ []) in
    let twice : ArenaObject = TupleObject (key ∷ v ∷ []) in
    let put : b ≡ with_tuple made t (key ∷ v ∷ []) =
    f ∙ (ap₂ (λ (w : Heap Value ℕ) (xs : List Value). with_tuple w t (set xs 1 v)) (filled_once key m e) (there_once key m e)
    ∙ ap (λ (os : List (Option ArenaObject)). record made { objects = os }) (set-set made.objects t (Some once) (Some twice))) in
    subst (λ (n : ℕ). Made old b n twice) m.number (tuple_made (values.None ∷ values.None ∷ []) m b (key ∷ v ∷ []) refl put)

-- the tuples as values
pub tuple_read : (first count k : ℕ) → k < count → slice_get (tuples_from first count) k ≡ Some (values.Tuple (record { cell = first + 3 * k }))
tuple_read first count k lt =
    let f : ℕ → Value = λ k. values.Tuple (record { cell = first + 3 * k }) in
    slice_get-get_or (tuples_from first count) k values.None (omega (arith, length-map-range_with_len f 0 count)) ∙ ap (λ (v : Value). Some v) (get_or-map-range_with_len f 0 count k k values.None lt (omega arith))

pub tuples_count : (first count : ℕ) → length (tuples_from first count) ≡ count
tuples_count first count = let f : ℕ → Value = λ k. values.Tuple (record { cell = first + 3 * k }) in length-map-range_with_len f 0 count

module _ (texts : StrNo → Option (List ℕ)) (tuples : ConstNo → Option (List Value)) where
  pub tuples_told : (h : Heap Value ℕ) (pairs : List (Value × Value)) → AllTold texts tuples h.objects → All (Both (IsTold texts tuples)) pairs → AllTold texts tuples (with_tuples h pairs).objects
  tuples_told h [] all told = all
  tuples_told h (pair ∷ pairs) all told =
      let P = IsTold texts tuples in
      let first = told 0 no_pair (omega arith) in
      tuples_told (tuple_more h pair) pairs (told_with_made texts tuples h (pair_object pair) all (All-cons P pair.0 (pair.1 ∷ []) (first.0) (All-cons P pair.1 [] (first.1) (All-nil P)))) (λ k d lt. told (suc k) d (omega arith))

  numbers_told : (first : ℕ) (ks : List ℕ) → All (IsTold texts tuples) (map (λ (k : ℕ). values.Tuple (record { cell = first + 3 * k })) ks)
  numbers_told first [] = All-nil (IsTold texts tuples)
  numbers_told first (k ∷ ks) = All-cons (IsTold texts tuples) (values.Tuple (record { cell = first + 3 * k })) (map (λ (k : ℕ). values.Tuple (record { cell = first + 3 * k })) ks) tt (numbers_told first ks)

  abbrev ats : ℕ → ℕ → List Val
  ats first zero = []
  ats first (suc count) = At first ∷ ats (first + 3) count

  ats_from : (first start at count : ℕ) → first + 3 * start ≡ at
      → map (plain texts tuples) (map (λ (k : ℕ). values.Tuple (record { cell = first + 3 * k })) (range_with_len start count)) ≡ ats at count
  ats_from first start at zero e = refl
  ats_from first start at (suc count) e = ap₂ (λ (n : ℕ) (vs : List Val). At n ∷ vs) e (ats_from first (start + 1) (at + 3) count (omega arith))

  abbrev plain_object_of : Value × Value → Object Val (List ℕ)
  plain_object_of pair = TupleObject (plain texts tuples pair.0 ∷ plain texts tuples pair.1 ∷ [])

  pair_made : (h : Heap Value ℕ) (pair : Value × Value) → Fits h 3 0
      → making_tuple (plain_heap texts tuples h) (plain texts tuples pair.0 ∷ plain texts tuples pair.1 ∷ []) ≡ gives (At (used h)) (plain_heap texts tuples (tuple_more h pair))
  pair_made h pair fits =
      let heap = plain_heap texts tuples h in
      let o = plain_object_of pair in
      ap (λ (b : Bool). cond b (gives (At (used heap)) (with_made heap o)) (is_full heap 3 0)) (fit_plain texts tuples h 3 0 ∙ fits_true h 3 0 fits)
      ∙ ap₂ (λ (n : ℕ) (w : PlainHeap). gives (At n) w) (used_plain texts tuples h) (sym (made_plain texts tuples h (pair_object pair)))

  pair_refused : (h : Heap Value ℕ) (pair : Value × Value) → (Fits h 3 0 → ⊥)
      → making_tuple (plain_heap texts tuples h) (plain texts tuples pair.0 ∷ plain texts tuples pair.1 ∷ []) ≡ is_full (plain_heap texts tuples h) 3 0
  pair_refused h pair unfit =
      let heap = plain_heap texts tuples h in
      let o = plain_object_of pair in
      ap (λ (b : Bool). cond b (gives (At (used heap)) (with_made heap o)) (is_full heap 3 0)) (fit_plain texts tuples h 3 0 ∙ fits_false h 3 0 unfit)

  abbrev and_more : Val → Outcome (List Val) → Outcome (List Val)
  and_more v rest = with_visits 0 (followed_by rest (λ (vs : List Val) (last : PlainHeap). gives (v ∷ vs) last))

  abbrev and_pairs : List (Value × Value) → Outcome Val → Outcome (List Val)
  and_pairs pairs first =
      followed_by first (λ (v : Val) (behind : PlainHeap). followed_by (making_pairs behind (map (plain_pair texts tuples) pairs)) (λ (vs : List Val) (last : PlainHeap). gives (v ∷ vs) last))

  all_at : (h : Heap Value ℕ) (pairs : List (Value × Value)) → Fits h (3 * length pairs) 0
      → making_pairs (plain_heap texts tuples h) (map (plain_pair texts tuples) pairs) ≡ gives (ats (used h) (length pairs)) (plain_heap texts tuples (with_tuples h pairs))
  all_at h [] fits = refl
  all_at h (pair ∷ pairs) fits =
      let cells = fits.cells_fit in
      let room = fits.bytes_fit in
      let more = tuple_more h pair in
      let fit_one : Fits h 3 0 = record { cells_fit = omega arith; bytes_fit = omega arith } in
      let fit_rest : Fits more (3 * length pairs) 0 = record { cells_fit = omega (arith, used_more h pair); bytes_fit = omega arith } in
      ap (and_pairs pairs) (pair_made h pair fit_one)
      ∙ (ap (and_more (At (used h))) (all_at more pairs fit_rest)
      ∙ ap (λ (n : ℕ). gives (At (used h) ∷ ats n (length pairs)) (plain_heap texts tuples (with_tuples more pairs))) (used_more h pair))

  pub pairs_made : (h : Heap Value ℕ) (pairs : List (Value × Value)) → Fits h (3 * length pairs) 0
      → making_pairs (plain_heap texts tuples h) (map (plain_pair texts tuples) pairs)
      ≡ gives (map (plain texts tuples) (tuples_from (used h) (length pairs))) (plain_heap texts tuples (with_tuples h pairs))
  pairs_made h pairs fits =
      all_at h pairs fits ∙ ap (λ (vs : List Val). gives vs (plain_heap texts tuples (with_tuples h pairs))) (sym (ats_from (used h) 0 (used h) (length pairs) (omega arith)))

  pub some_pairs_made : (h : Heap Value ℕ) (pairs : List (Value × Value)) (made : ℕ) → made < length pairs → Fits h (3 * made) 0 → (Fits (with_tuples h (take made pairs)) 3 0 → ⊥)
      → making_pairs (plain_heap texts tuples h) (map (plain_pair texts tuples) pairs) ≡ is_full (plain_heap texts tuples (with_tuples h (take made pairs))) 3 0
  some_pairs_made h [] made lt fits unfit = absurd (omega arith)
  some_pairs_made h (pair ∷ pairs) zero lt fits unfit = ap (and_pairs pairs) (pair_refused h pair unfit)
  some_pairs_made h (pair ∷ pairs) (suc made) lt fits unfit =
      let cells = fits.cells_fit in
      let room = fits.bytes_fit in
      let more = tuple_more h pair in
      let fit_one : Fits h 3 0 = record { cells_fit = omega arith; bytes_fit = omega arith } in
      let fit_rest : Fits more (3 * made) 0 = record { cells_fit = omega (arith, used_more h pair); bytes_fit = omega arith } in
      ap (and_pairs pairs) (pair_made h pair fit_one) ∙ ap (and_more (At (used h))) (some_pairs_made more pairs made (omega arith) fit_rest unfit)

  -- a list with room for tuples, and then the tuples
  module _ (old made : Heap Value ℕ) (l : ListNo) (count : ℕ) where
    abbrev pub taking : Outcome (List Val) → Outcome Val
    taking kept = with_visits 0 (followed_by kept (λ items last. gives (At l.cell) (with_list last l.cell items)))

    pub list_taking : Made old made l.cell (ListObject [] (room_for count)) → (kept : PlainHeap → Outcome (List Val)) (all : Outcome (List Val)) → kept (plain_heap texts tuples made) ≡ all
        → list_of (plain_heap texts tuples old) count kept ≡ taking all
    list_taking m kept all e =
        let heap = plain_heap texts tuples old in
        let o : Object Val (List ℕ) = ListObject [] (room_for count) in
        let after : ℕ → Outcome Val → Outcome Val = λ n first. followed_by first (λ (made : Val) (behind : PlainHeap). followed_by (kept behind) (λ (items : List Val) (last : PlainHeap). gives made (with_list last n items))) in
        ap (λ (b : Bool). after (used heap) (cond b (gives (At (used heap)) (with_made heap o)) (is_full heap (suc (2 + room_for count)) 0))) (fit_plain texts tuples old (suc (2 + room_for count)) 0 ∙ fits_true old (suc (2 + room_for count)) 0 m.fits)
        ∙ (ap₂ (λ (n : ℕ) (w : PlainHeap). after n (gives (At n) w)) (used_plain texts tuples old ∙ sym m.number) (sym (ap (plain_heap texts tuples) m.world ∙ made_plain texts tuples old (ListObject [] (room_for count))))
        ∙ ap taking e)

    pub took_tuples : Made old made l.cell (ListObject [] (room_for count)) → IsA made.objects AList l.cell → (pairs : List (Value × Value)) → AllTold texts tuples made.objects → All (Both (IsTold texts tuples)) pairs
        → (new : Heap Value ℕ) → new ≡ with_list (with_tuples made pairs) l.cell (tuples_from (used made) (length pairs))
        → (outcome : Outcome Val) → outcome ≡ taking (gives (map (plain texts tuples) (tuples_from (used made) (length pairs))) (plain_heap texts tuples (with_tuples made pairs)))
        → IsOutcome texts tuples old new (Ok (values.List l)) outcome
    took_tuples m is pairs all told new put outcome e =
        let mid = with_tuples made pairs in
        let items = tuples_from (used made) (length pairs) in
        let there : IsA mid.objects AList l.cell = (tuples_later made pairs).keeps AList l.cell is in
        let later : Later mid.objects new.objects = subst (λ (w : Heap Value ℕ). Later mid.objects w.objects) (sym put) (later_list mid l.cell items there) in
        let room : ArenaObject = ListObject items (room_at mid l.cell) in
        record {
          answer = sym (ap (λ (o : Outcome Val). o.answer) e);
          heap = ap (plain_heap texts tuples) put ∙ (list_put texts tuples mid l.cell items ∙ sym (ap (λ (o : Outcome Val). o.heap) e));
          known = record { leads = record { meets = later.keeps AList l.cell there; small = tt }; told = tt };
          later = later_later (later_made m) (later_later (tuples_later made pairs) later);
          all_told = subst (λ (w : Heap Value ℕ). AllTold texts tuples w.objects) (sym put)
              (told_put texts tuples mid l.cell AList there (tuples_told made pairs all told) room (numbers_told (used made) (range_with_len 0 (length pairs))));
        }
