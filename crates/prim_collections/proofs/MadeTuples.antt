-- Tuples that are made of the items of iterables.
use Rattle.std.proofs.Common.{◌≡◌, ℕ, zero, suc, ◌+◌, ◌*◌, ◌<◌, List, ◌∷◌, ◌++◌, length, take, map, replicate, true, Option, Ok, Err, refl, sym, ap, ap₂, ◌∙◌, subst, arith, length-append}
use Rattle.std.proofs.lemmas.List.{length-replicate}
use Rattle.prim_builtins.specs.arena_heap.declared.value.Value.{Value}
use Rattle.prim_builtins.specs.arena_heap.declared.value.Value.TheVariants as values
use Rattle.prim_builtins.specs.arena_heap.declared.value.TupleNo.{TupleNo}
use Rattle.prim_builtins.specs.arena_heap.declared.value.StrNo.{StrNo}
use Rattle.prim_builtins.specs.arena_heap.declared.value.ConstNo.{ConstNo}
use Rattle.prim_builtins.specs.mpy_base.declared.room.NoRoom.{NoRoom}
use Rattle.prim_builtins.specs.mpy_base.World.{TupleObject, Heap, ObjectKind, IsA, Later, items_of, items_at, with_tuple}
use Rattle.prim_builtins.specs.mpy_base.Weights.{used, Fits, Made, Refused, cells_of}
use Rattle.prim_builtins.specs.mpy_base.Val.{Val, Nil, Empty, At}
use Rattle.prim_builtins.proofs.mpy_base_lemmas.Worlds.{is_within, later_later, later_made, object_made, used_made}
use Rattle.prim_builtins.specs.arena_heap.Values.{ArenaObject, Leads}
use Rattle.prim_builtins.specs.arena_objects.Keys.{AllTold}
use Rattle.prim_builtins.specs.arena_objects.Iterables.{items_in as arena_items, spelled, with_texts, texts_from, TextRefused}
use Rattle.prim_builtins.proofs.arena_objects_lemmas.Gifts.{Keeps, keeps_keeps, items_kept, spelled_kept}
use Rattle.prim_builtins.proofs.arena_objects_lemmas.MadeTexts.{texts_keep, texts_later, texts_same, texts_are, texts_told}
use Rattle.prim_builtins.specs.py_values.Shown.{PlainHeap, shown}
use Rattle.prim_builtins.specs.py_primitives.Outcome.{Outcome, gives, making, with_visits, followed_by, tuple_of}
use Rattle.prim_builtins.specs.py_primitives.Iterables.{iterating, over_items, kept_items}
use Rattle.prim_builtins.specs.py_primitives.Calls.{tuple_from}
use Rattle.prim_builtins.specs.prim_walks.Plain.{plain, plain_heap}
use Rattle.prim_builtins.specs.prim_faults.declared.stop.Stop.TheVariants.{Full}
use Rattle.prim_builtins.specs.prim_faults.Outcomes.{IsOutcome}
use Rattle.prim_builtins.proofs.prim_faults_lemmas.Heaps.{plain_made, used_plain, object_put}
use Rattle.prim_builtins.proofs.prim_faults_lemmas.Outcomes.{answered, gives_outcome, full_outcome}
use Rattle.prim_builtins.specs.prim_operators.Sources.{IsElsewhere}
use Rattle.prim_builtins.proofs.prim_operators_lemmas.ItemFills.{told_nones}
use Rattle.prim_collections.specs.Collected.{is_iterable, is_str, kept_length, kept_values, AreLetters}
use Rattle.prim_collections.proofs.Kept.{making_fits, making_unfit, Kept}
use Rattle.prim_collections.proofs.MadeLists.{keeps_made, more_visits, stopped_outcome}
use Rattle.prim_collections.proofs.TupleFills.{texts_length, values_all}

some_tuple : (heap : PlainHeap) (n : ℕ) (kept : PlainHeap → Outcome (List Val)) → 0 < n
    → tuple_of heap n kept ≡ followed_by (making heap (TupleObject (replicate n Nil))) (λ made behind. followed_by (kept behind) (λ items last. gives made (with_tuple last (used heap) items)))
some_tuple heap zero kept lt = absurd (omega arith)
some_tuple heap (suc n) kept lt = refl

no_tuple : (heap : PlainHeap) (n : ℕ) (kept : PlainHeap → Outcome (List Val)) → n ≡ 0 → tuple_of heap n kept ≡ gives Empty heap
no_tuple heap zero kept e = refl
no_tuple heap (suc n) kept e = absurd (omega arith)

pub str_count : (texts : StrNo → Option (List ℕ)) (tuples : ConstNo → Option (List Value)) (h : Heap Value ℕ) (v : Value) → is_str v ≡ true → kept_length texts tuples h v ≡ length (spelled texts h v)
str_count texts tuples h (values.Str s) str = omega arith
str_count texts tuples h (values.Text t) str = omega arith
str_count texts tuples h _ str = absurd cc

before : {old made : Heap Value ℕ} {t : ℕ} {o : ArenaObject} → Made old made t o → (n : ℕ) (kind : ObjectKind) → IsA old.objects kind n → n ≡ t → ⊥
before {old} m n kind is e = let low = is_within old.objects kind n is in let number = m.number in omega arith

elsewhere : {old made : Heap Value ℕ} {t : ℕ} {o : ArenaObject} → Made old made t o → (v : Value) → Leads old.objects v → IsElsewhere t v
elsewhere m (values.List n) leads = before m n.cell _ leads.meets
elsewhere m (values.Tuple n) leads = before m n.cell _ leads.meets
elsewhere m (values.Dict n) leads = before m n.cell _ leads.meets
elsewhere m (values.Range n) leads = before m n.cell _ leads.meets
elsewhere m _ leads = tt

module _ (texts : StrNo → Option (List ℕ)) (tuples : ConstNo → Option (List Value)) where
  nones_plain : (k : ℕ) → replicate k Nil ≡ map (plain texts tuples) (replicate k values.None)
  nones_plain zero = refl
  nones_plain (suc k) = ap (λ (vs : List Val). Nil ∷ vs) (nones_plain k)

  module _ (h : Heap Value ℕ) (v : Value) (kept : Kept texts tuples h v) where
    abbrev heap : PlainHeap
    heap = plain_heap texts tuples h

    abbrev count : ℕ
    count = kept_length texts tuples h v

    abbrev nones : ArenaObject
    nones = TupleObject (replicate count values.None)

    abbrev items_behind : PlainHeap → Outcome (List Val)
    items_behind behind = kept_items behind kept.items (shown heap (plain texts tuples v))

    abbrev behind_tuple : ℕ → Val → PlainHeap → Outcome Val
    behind_tuple n made behind = followed_by (items_behind behind) (λ items last. gives made (with_tuple last n items))

    tuple_is : iterating heap (plain texts tuples v) (tuple_from heap (plain texts tuples v)) ≡ with_visits (length kept.items) (tuple_of heap count items_behind)
    tuple_is =
        ap (λ (o : Option (List Val)). over_items heap (plain texts tuples v) o (tuple_from heap (plain texts tuples v))) kept.has
        ∙ ap (λ (n : ℕ). with_visits (length kept.items) (tuple_of heap n items_behind)) kept.count

    -- nothing is made of no items
    pub tuple_empty : count ≡ 0 → AllTold texts tuples h.objects → IsOutcome texts tuples h h (Ok values.Empty) (iterating heap (plain texts tuples v) (tuple_from heap (plain texts tuples v)))
    tuple_empty none all =
        subst (λ (o : Outcome Val). IsOutcome texts tuples h h (Ok values.Empty) o) (sym tuple_is)
        (more_visits texts tuples h h (Ok values.Empty) (length kept.items) _ (gives_outcome texts tuples h values.Empty _ all (record { meets = tt; small = tt }) tt (no_tuple heap count items_behind none)))

    tuple_some : 0 < count → iterating heap (plain texts tuples v) (tuple_from heap (plain texts tuples v)) ≡ with_visits (length kept.items) (followed_by (making heap (plain_made texts tuples nones)) (behind_tuple (used h)))
    tuple_some some =
        tuple_is ∙ (ap (λ (o : Outcome Val). with_visits (length kept.items) o) (some_tuple heap count items_behind some)
        ∙ ap₂ (λ (vs : List Val) (k : ℕ). with_visits (length kept.items) (followed_by (making heap (TupleObject vs)) (behind_tuple k))) (nones_plain count) (used_plain texts tuples h))

    -- its room doesn't fit
    pub tuple_refused : (new : Heap Value ℕ) (e : NoRoom) → 0 < count → Refused h new e (1 + count) 0 → AllTold texts tuples h.objects
        → IsOutcome texts tuples h new (Err (Full e)) (iterating heap (plain texts tuples v) (tuple_from heap (plain texts tuples v)))
    tuple_refused new e some r all =
        let cells : 1 + count ≡ cells_of nones = omega (arith, length-replicate count values.None) in
        let refused : Refused h new e (cells_of nones) 0 = subst (λ (n : ℕ). Refused h new e n 0) cells r in
        subst (λ (o : Outcome Val). IsOutcome texts tuples h new (Err (Full e)) o) (sym (tuple_some some))
        (more_visits texts tuples h new (Err (Full e)) (length kept.items) _
        (full_outcome texts tuples h new e (cells_of nones) 0 _ refused all (ap (λ (o : Outcome Val). followed_by o (behind_tuple (used h))) (making_unfit texts tuples h new e nones refused))))

    module _ (iterable : is_iterable v ≡ true) (leads : Leads h.objects v) {made : Heap Value ℕ} {t : ℕ} (m : Made h made t nones) (some : 0 < count) where
      tuple_behind : iterating heap (plain texts tuples v) (tuple_from heap (plain texts tuples v)) ≡ with_visits (length kept.items) (with_visits 0 (behind_tuple t (At t) (plain_heap texts tuples made)))
      tuple_behind =
          tuple_some some ∙ (ap (λ (o : Outcome Val). with_visits (length kept.items) (followed_by o (behind_tuple (used h)))) (making_fits texts tuples h made t nones m)
          ∙ ap (λ (n : ℕ). with_visits (length kept.items) (with_visits 0 (behind_tuple n (At t) (plain_heap texts tuples made)))) (sym m.number))

      same_spelled : spelled texts made v ≡ spelled texts h v
      same_spelled = spelled_kept tuples texts (keeps_made m) v leads

      abbrev lettered : Heap Value ℕ
      lettered = with_texts made (spelled texts h v)

      abbrev all : List Value
      all = arena_items tuples h v ++ texts_from (used made) (length (spelled texts h v))

      lettered_is : (g : Heap Value ℕ) → g ≡ with_texts made (spelled texts made v) → g ≡ lettered
      lettered_is g e = e ∙ ap (λ (bs : List ℕ). with_texts made bs) same_spelled

      keeps : Keeps h lettered
      keeps = keeps_keeps (keeps_made m) (texts_keep made (spelled texts h v))

      pub told_made : AllTold texts tuples h.objects → AllTold texts tuples made.objects
      told_made known = told_nones texts tuples count m known

      pub lettered_later : (g : Heap Value ℕ) → g ≡ with_texts made (spelled texts made v) → Later made.objects g.objects
      lettered_later g e = subst (λ (w : Heap Value ℕ). Later made.objects w.objects) (sym e) (texts_later made (spelled texts made v))

      pub lettered_told : AllTold texts tuples h.objects → (g : Heap Value ℕ) → g ≡ with_texts made (spelled texts made v) → AllTold texts tuples g.objects
      lettered_told known g e = subst (λ (w : Heap Value ℕ). AllTold texts tuples w.objects) (sym e) (texts_told texts tuples made (spelled texts made v) (told_made known))

      pub tuple_apart : IsElsewhere t v
      tuple_apart = elsewhere m v leads

      pub letters_are : (g : Heap Value ℕ) (first n : ℕ) → g ≡ with_texts made (spelled texts made v) → first ≡ used made → n ≡ count → AreLetters g.objects first n v
      letters_are g first n e p q =
          subst (λ (w : Heap Value ℕ). AreLetters w.objects first n v) (sym (lettered_is g e))
          (subst (λ (k : ℕ). AreLetters lettered.objects k n v) (sym p)
          (λ str k lt. texts_are made (spelled texts h v) k (omega (arith, lt, q, str_count texts tuples h v str))))

      values_are : (g : Heap Value ℕ) (first n : ℕ) → g ≡ with_texts made (spelled texts made v) → first ≡ used made → n ≡ count → kept_values tuples g first n v ≡ all
      values_are g first n e p q =
          let same : kept_length texts tuples lettered v ≡ count = ap₂ (λ (xs : List Value) (bs : List ℕ). length xs + length bs) (items_kept tuples texts keeps v leads) (spelled_kept tuples texts keeps v leads) in
          ap₂ (λ (w : Heap Value ℕ) (k : ℕ). kept_values tuples w k n v) (lettered_is g e) p
          ∙ (values_all texts tuples lettered (used made) n v iterable (q ∙ sym same)
          ∙ ap₂ (λ (xs : List Value) (bs : List ℕ). xs ++ texts_from (used made) (length bs)) (items_kept tuples texts keeps v leads) (spelled_kept tuples texts keeps v leads))

      pub values_length : (g : Heap Value ℕ) (first n : ℕ) → g ≡ with_texts made (spelled texts made v) → first ≡ used made → n ≡ count → length (kept_values tuples g first n v) ≡ n
      values_length g first n e p q =
          let xs = arena_items tuples h v in
          let ys = texts_from (used made) (length (spelled texts h v)) in
          omega (arith, ap (λ (vs : List Value). length vs) (values_are g first n e p q), length-append xs ys, texts_length (used made) (length (spelled texts h v)), q)

      pub tuple_room : (g : Heap Value ℕ) (n : ℕ) → g ≡ with_texts made (spelled texts made v) → n ≡ count → length (items_at g t) ≡ n
      tuple_room g n e q =
          let low : t < length made.objects = omega (arith, m.number, used_made m) in
          ap (λ (w : Heap Value ℕ). length (items_at w t)) (lettered_is g e)
          ∙ (ap (λ (o : Option ArenaObject). length (items_of o)) (texts_same made (spelled texts h v) t low ∙ object_made m) ∙ (length-replicate count values.None ∙ sym q))

      -- it takes all items
      pub tuple_filled : (g new : Heap Value ℕ) (first n : ℕ) (number : TupleNo) → g ≡ with_texts made (spelled texts made v) → first ≡ used made → n ≡ count → number.cell ≡ t
          → new ≡ with_tuple g t (kept_values tuples g first n v) → Fits made (2 * length (spelled texts made v)) (length (spelled texts made v))
          → Later h.objects new.objects → AllTold texts tuples new.objects → Leads new.objects (values.Tuple number)
          → IsOutcome texts tuples h new (Ok (values.Tuple number)) (iterating heap (plain texts tuples v) (tuple_from heap (plain texts tuples v)))
      tuple_filled g new first n number e p q is put f later known lead =
          let bytes = spelled texts h v in
          let fits : Fits made (2 * length bytes) (length bytes) = subst (λ (bs : List ℕ). Fits made (2 * length bs) (length bs)) same_spelled f in
          let new_is : new ≡ with_tuple lettered t all = put ∙ ap₂ (λ (w : Heap Value ℕ) (xs : List Value). with_tuple w t xs) (lettered_is g e) (values_are g first n e p q) in
          let world : with_tuple (plain_heap texts tuples lettered) t (map (plain texts tuples) all) ≡ plain_heap texts tuples new =
          sym (ap (plain_heap texts tuples) new_is ∙ object_put texts tuples lettered t (TupleObject all)) in
          subst (λ (o : Outcome Val). IsOutcome texts tuples h new (Ok (values.Tuple number)) o) (sym tuple_behind)
          (more_visits texts tuples h new (Ok (values.Tuple number)) (length kept.items) _
          (answered texts tuples h new (values.Tuple number) _ later known lead tt
          (ap (λ (o : Outcome (List Val)). with_visits 0 (followed_by o (λ items last. gives (At t) (with_tuple last t items)))) (kept.made made fits)
          ∙ ap₂ (λ (k : ℕ) (w : PlainHeap). gives (At k) w) (sym is) world)))

      -- a text of it doesn't fit
      pub tuple_stops : AllTold texts tuples h.objects → (new : Heap Value ℕ) (e : NoRoom) → TextRefused made new e (spelled texts made v)
          → IsOutcome texts tuples h new (Err (Full e)) (iterating heap (plain texts tuples v) (tuple_from heap (plain texts tuples v)))
      tuple_stops known new e refused =
          let r : TextRefused made new e (spelled texts h v) = subst (λ (bs : List ℕ). TextRefused made new e bs) same_spelled refused in
          let some_bytes = take r.made (spelled texts h v) in
          let later : Later h.objects new.objects =
          subst (λ (w : Heap Value ℕ). Later h.objects w.objects) (sym r.refused.unchanged) (later_later (later_made m) (texts_later made some_bytes)) in
          let all_known : AllTold texts tuples new.objects =
          subst (λ (w : Heap Value ℕ). AllTold texts tuples w.objects) (sym r.refused.unchanged) (texts_told texts tuples made some_bytes (told_made known)) in
          subst (λ (o : Outcome Val). IsOutcome texts tuples h new (Err (Full e)) o) (sym tuple_behind)
          (more_visits texts tuples h new (Err (Full e)) (length kept.items) _
          (stopped_outcome texts tuples h new e _ later all_known
          (ap (λ (o : Outcome (List Val)). with_visits 0 (followed_by o (λ items last. gives (At t) (with_tuple last t items)))) (kept.stops made new e r))))
