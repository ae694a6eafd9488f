-- Lists that take the items of iterables, as the meaning has them.
use Rattle.std.proofs.Common.{◌≡◌, ℕ, ◌+◌, ◌*◌, ◌<◌, List, ◌++◌, length, take, map, replicate, Bool, true, false, cond, Option, Some, None, Result, Err, refl, sym, ap, ap₂, ◌∙◌, arith, length-append, length-set}
use Rattle.std.proofs.lemmas.List.{length-map, map-append, length-replicate}
use Rattle.prim_operators.specs.arena_heap.declared.value.Value.{Value}
use Rattle.prim_operators.specs.arena_heap.declared.value.StrNo.{StrNo}
use Rattle.prim_operators.specs.arena_heap.declared.value.ConstNo.{ConstNo}
use Rattle.prim_operators.specs.mpy_base.declared.room.NoRoom.{NoRoom}
use Rattle.prim_operators.specs.mpy_base.World.{ListObject, Heap, Later, items_at, with_list}
use Rattle.prim_operators.specs.mpy_base.Weights.{used, does_fit, Fits, Refused, list_growth, grown_room, with_list_room}
use Rattle.prim_operators.specs.mpy_base.Val.{Val, At}
use Rattle.prim_operators.specs.arena_heap.Values.{ArenaObject}
use Rattle.prim_operators.specs.arena_objects.Keys.{AllTold}
use Rattle.prim_operators.specs.arena_objects.Iterables as arena
use Rattle.prim_operators.specs.arena_objects.Iterables.{spelled, with_texts, texts_from, extended, extended_length}
use Rattle.prim_operators.specs.py_values.Shown.{PlainHeap, shown}
use Rattle.prim_operators.specs.py_primitives.Outcome as primitives
use Rattle.prim_operators.specs.py_primitives.Outcome.{Outcome, gives, is_full, with_visits, followed_by}
use Rattle.prim_operators.specs.py_primitives.Iterables.{kept_items, over_items}
use Rattle.prim_operators.specs.py_primitives.Operators.{extended_by, extend}
use Rattle.prim_operators.specs.prim_walks.Plain.{plain, plain_heap}
use Rattle.prim_operators.specs.prim_faults.declared.stop.Stop.{Stop}
use Rattle.prim_operators.specs.prim_faults.declared.stop.Stop.TheVariants.{Full}
use Rattle.prim_operators.specs.prim_faults.Outcomes.{IsOutcome}
use Rattle.prim_operators.proofs.prim_faults_lemmas.Heaps.{fit_plain, no_room_plain, items_of_plain, list_put}
use Rattle.prim_operators.proofs.prim_faults_lemmas.Outcomes.{fits_true, fits_false}
use Rattle.prim_assignments.proofs.Growths.{list_growth_plain, list_room_put}
use Rattle.prim_assignments.proofs.Iterated.{Iterated}

module _ (texts : StrNo → Option (List ℕ)) (tuples : ConstNo → Option (List Value)) where
  -- visits change no answer
  pub visited : (old new : Heap Value ℕ) (result : Result Value Stop) (visits : ℕ) (outcome : Outcome Val) → IsOutcome texts tuples old new result outcome → IsOutcome texts tuples old new result (with_visits visits outcome)
  visited old new result visits outcome is = record { answer = is.answer; heap = is.heap; known = is.known; later = is.later; all_told = is.all_told }

  -- a making that didn't fit behind others that did
  pub full_behind : (old mid new : Heap Value ℕ) (e : NoRoom) (cells bytes : ℕ) (outcome : Outcome Val) → Refused mid new e cells bytes → Later old.objects new.objects → AllTold texts tuples new.objects
      → outcome ≡ is_full (plain_heap texts tuples mid) cells bytes → IsOutcome texts tuples old new (Err (Full e)) outcome
  full_behind old mid new e cells bytes outcome r later all is = record {
    answer = ap (λ (x : NoRoom). Err (primitives.Full x)) (r.told ∙ sym (no_room_plain texts tuples mid cells bytes)) ∙ sym (ap (λ (o : Outcome Val). o.answer) is);
    heap = ap (plain_heap texts tuples) r.unchanged ∙ sym (ap (λ (o : Outcome Val). o.heap) is);
    known = tt;
    later = later;
    all_told = all;
  }

  module _ (h : Heap Value ℕ) (l : ℕ) (from : Value) (i : Iterated texts tuples h from) where
    -- what follows on the items that are kept
    abbrev finish : List Val → PlainHeap → Outcome Val
    finish kept behind = gives (At l) (with_list behind l (items_at (plain_heap texts tuples h) l ++ kept))

    abbrev taken : Bool → Outcome Val
    taken b =
        let heap = plain_heap texts tuples h in
        let n = extended_length texts tuples h l from in
        cond b (followed_by (kept_items (plain_heap texts tuples (with_list_room h l n)) i.items (shown heap (plain texts tuples from))) finish) (is_full heap (list_growth h l n) 0)

    all_items : length (items_at (plain_heap texts tuples h) l ++ i.items) ≡ extended_length texts tuples h l from
    all_items =
        let items : length (items_at (plain_heap texts tuples h) l) ≡ length (items_at h l) = ap (λ (vs : List Val). length vs) (items_of_plain texts tuples h l) ∙ length-map (items_at h l) (plain texts tuples) in
        omega (arith, length-append (items_at (plain_heap texts tuples h) l) i.items, items, i.count)

    extend_is : (b : Bool) → does_fit h (list_growth h l (extended_length texts tuples h l from)) 0 ≡ b
        → extend (plain_heap texts tuples h) l (plain texts tuples from) ≡ with_visits (length i.items) (taken b)
    extend_is b fits =
        let heap = plain_heap texts tuples h in
        let n = extended_length texts tuples h l from in
        let v = plain texts tuples from in
        let by : ℕ → ℕ → PlainHeap → Bool → Outcome Val = λ k cells room c.
        with_visits (length i.items) (cond c (followed_by (kept_items room i.items (shown heap v)) finish) (is_full heap cells 0)) in
        let growth : list_growth heap l n ≡ list_growth h l n = list_growth_plain texts tuples h l n in
        let fit : does_fit heap (list_growth heap l n) 0 ≡ b = ap (λ (cells : ℕ). does_fit heap cells 0) growth ∙ (fit_plain texts tuples h (list_growth h l n) 0 ∙ fits) in
        ap (λ (o : Option (List Val)). over_items heap v o (extended_by heap l v)) i.shows
        ∙ (ap (λ (k : ℕ). by k (list_growth heap l k) (with_list_room heap l k) (does_fit heap (list_growth heap l k) 0)) all_items
        ∙ (ap (λ (c : Bool). by n (list_growth heap l n) (with_list_room heap l n) c) fit
        ∙ ap₂ (λ (cells : ℕ) (room : PlainHeap). by n cells room b) growth (sym (list_room_put texts tuples h l n))))

    longer : used (with_list_room h l (extended_length texts tuples h l from)) ≡ used h + list_growth h l (extended_length texts tuples h l from)
    longer =
        let n = extended_length texts tuples h l from in
        let none : Option ArenaObject = None in
        let more = replicate (list_growth h l n) none in
        omega (arith, length-set (h.objects ++ more) l (Some (ListObject (items_at h l) (grown_room h l n))), length-append h.objects more, length-replicate (list_growth h l n) none)

    -- all fits
    pub taken_all : (new : Heap Value ℕ) → new ≡ extended texts tuples h l from
        → Fits h (list_growth h l (extended_length texts tuples h l from) + 2 * length (spelled texts h from)) (length (spelled texts h from))
        → extend (plain_heap texts tuples h) l (plain texts tuples from) ≡ with_visits (length i.items) (gives (At l) (plain_heap texts tuples new))
    taken_all new e fits =
        let n = extended_length texts tuples h l from in
        let bytes = spelled texts h from in
        let room = with_list_room h l n in
        let made = with_texts room bytes in
        let xs = arena.items_in tuples h from ++ texts_from (used room) (length bytes) in
        let now : Fits h (list_growth h l n) 0 = record { cells_fit = let p = fits.cells_fit in omega arith; bytes_fit = let p = fits.bytes_fit in omega arith } in
        let behind : Fits room (2 * length bytes) (length bytes) = record { cells_fit = omega (arith, fits.cells_fit, longer); bytes_fit = fits.bytes_fit } in
        let items : items_at (plain_heap texts tuples h) l ++ map (plain texts tuples) xs ≡ map (plain texts tuples) (items_at h l ++ xs) =
        ap (λ (vs : List Val). vs ++ map (plain texts tuples) xs) (items_of_plain texts tuples h l) ∙ sym (map-append (plain texts tuples) (items_at h l) xs) in
        extend_is true (fits_true h (list_growth h l n) 0 now)
        ∙ (ap (λ (o : Outcome (List Val)). with_visits (length i.items) (followed_by o finish)) (i.kept room behind)
        ∙ (ap (λ (vs : List Val). with_visits (length i.items) (gives (At l) (with_list (plain_heap texts tuples made) l vs))) items
        ∙ ap (λ (w : PlainHeap). with_visits (length i.items) (gives (At l) w)) (sym (list_put texts tuples made l (items_at h l ++ xs)) ∙ sym (ap (plain_heap texts tuples) e))))

    -- the room doesn't fit
    pub no_room_taken : (Fits h (list_growth h l (extended_length texts tuples h l from)) 0 → ⊥)
        → extend (plain_heap texts tuples h) l (plain texts tuples from) ≡ with_visits (length i.items) (is_full (plain_heap texts tuples h) (list_growth h l (extended_length texts tuples h l from)) 0)
    no_room_taken unfit =
        let cells = list_growth h l (extended_length texts tuples h l from) in
        extend_is false (fits_false h cells 0 unfit)

    -- the room fits, and a text doesn't
    pub no_text_taken : Fits h (list_growth h l (extended_length texts tuples h l from)) 0 → (made : ℕ) → made < length (spelled texts h from)
        → Fits (with_list_room h l (extended_length texts tuples h l from)) (2 * made) made
        → (Fits (with_texts (with_list_room h l (extended_length texts tuples h l from)) (take made (spelled texts h from))) 2 1 → ⊥)
        → extend (plain_heap texts tuples h) l (plain texts tuples from)
        ≡ with_visits (length i.items) (is_full (plain_heap texts tuples (with_texts (with_list_room h l (extended_length texts tuples h l from)) (take made (spelled texts h from)))) 2 1)
    no_text_taken fits made few fitted unfit =
        let n = extended_length texts tuples h l from in
        extend_is true (fits_true h (list_growth h l n) 0 fits)
        ∙ ap (λ (o : Outcome (List Val)). with_visits (length i.items) (followed_by o finish)) (i.stopped (with_list_room h l n) made few fitted unfit)
