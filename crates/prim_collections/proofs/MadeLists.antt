-- Lists that are made of the items of iterables.
use Rattle.std.proofs.Common.{◌≡◌, ℕ, suc, ◌+◌, ◌*◌, ◌<◌, List, [], ◌++◌, length, map, set, Bool, true, cond, Option, Some, None, Result, Ok, Err, sym, ap, ap₂, ◌∙◌, subst, inl, inr, arith}
use Rattle.std.specs.Prelude.{nat_le}
use Rattle.std.proofs.lemmas.List.{append-nil, set-get_or}
use Rattle.std.proofs.lemmas.Bool.{le-leb}
use Rattle.prim_builtins.specs.arena_heap.declared.value.Value.{Value}
use Rattle.prim_builtins.specs.arena_heap.declared.value.Value.TheVariants as values
use Rattle.prim_builtins.specs.arena_heap.declared.value.ListNo.{ListNo}
use Rattle.prim_builtins.specs.arena_heap.declared.value.StrNo.{StrNo}
use Rattle.prim_builtins.specs.arena_heap.declared.value.ConstNo.{ConstNo}
use Rattle.prim_builtins.specs.mpy_base.declared.room.NoRoom.{NoRoom}
use Rattle.prim_builtins.specs.mpy_base.World.{ListObject, Heap, Later, object, items_of, items_at, room_of, room_at, text_of, with_list, with_object}
use Rattle.prim_builtins.specs.mpy_base.Weights.{used, Fits, Made, Refused, room_for, list_growth, with_used, with_list_room}
use Rattle.prim_builtins.specs.mpy_base.Val.{Val, At}
use Rattle.prim_builtins.proofs.mpy_base_lemmas.Rooms.{room_is}
use Rattle.prim_builtins.proofs.mpy_base_lemmas.Worlds.{object_before, object_made, used_made}
use Rattle.prim_builtins.specs.arena_heap.Values.{ArenaObject, Leads}
use Rattle.prim_builtins.specs.arena_objects.Keys.{AllTold}
use Rattle.prim_builtins.specs.arena_objects.Iterables.{given, items_in as arena_items, spelled, with_texts, texts_from, extended, extended_length, TextRefused, NotExtended}
use Rattle.prim_builtins.proofs.arena_objects_lemmas.Gifts.{Keeps, items_kept, spelled_kept}
use Rattle.prim_builtins.specs.py_values.Shown.{PlainHeap, shown}
use Rattle.prim_builtins.specs.py_primitives.Outcome.{Outcome, gives, making, with_visits, followed_by}
use Rattle.prim_builtins.specs.py_primitives.Iterables.{iterating, over_items, kept_items}
use Rattle.prim_builtins.specs.py_primitives.Calls.{list_from}
use Rattle.prim_builtins.specs.prim_walks.Plain.{plain, plain_heap}
use Rattle.prim_builtins.specs.prim_faults.declared.stop.Stop.{Stop}
use Rattle.prim_builtins.specs.prim_faults.declared.stop.Stop.TheVariants.{Full}
use Rattle.prim_builtins.specs.prim_faults.Outcomes.{IsOutcome}
use Rattle.prim_builtins.proofs.prim_faults_lemmas.Heaps.{used_plain, fit_plain, made_plain, list_put}
use Rattle.prim_builtins.proofs.prim_faults_lemmas.Outcomes.{answered, full_outcome, fits_true, fits_false, fitted, unfitted}
use Rattle.prim_collections.specs.Collected.{kept_length}
use Rattle.prim_collections.proofs.Kept.{stopped, Kept}

fits_alone : (h : Heap Value ℕ) (more cells bytes : ℕ) → more ≡ 0 → Fits h (more + cells) bytes → Fits h cells bytes
fits_alone h more cells bytes e f = record { cells_fit = omega (arith, f.cells_fit); bytes_fit = f.bytes_fit }

-- an object more changes no items
pub keeps_made : {old made : Heap Value ℕ} {n : ℕ} {o : ArenaObject} → Made old made n o → Keeps old made
keeps_made {old} {made} m =
    let same : (n : ℕ) → n < length old.objects → object made.objects n ≡ object old.objects n = λ n lt. object_before m n lt in
    record { gives = λ n lt. ap given (same n lt); spells = λ n lt. ap text_of (same n lt); longer = λ n lt. omega (arith, lt, used_made m) }

module _ (texts : StrNo → Option (List ℕ)) (tuples : ConstNo → Option (List Value)) where
  -- visits more change neither the answer nor the heap
  pub more_visits : (old new : Heap Value ℕ) (result : Result Value Stop) (visits : ℕ) (outcome : Outcome Val) → IsOutcome texts tuples old new result outcome → IsOutcome texts tuples old new result (with_visits visits outcome)
  more_visits old new result visits outcome o = record { answer = o.answer; heap = o.heap; known = o.known; later = o.later; all_told = o.all_told }

  -- a making that stopped behind others
  pub stopped_outcome : (old new : Heap Value ℕ) (e : NoRoom) (outcome : Outcome Val) → Later old.objects new.objects → AllTold texts tuples new.objects
      → outcome ≡ stopped e (plain_heap texts tuples new) → IsOutcome texts tuples old new (Err (Full e)) outcome
  stopped_outcome old new e outcome later all is = record {
    answer = sym (ap (λ (o : Outcome Val). o.answer) is);
    heap = sym (ap (λ (o : Outcome Val). o.heap) is);
    known = tt;
    later = later;
    all_told = all;
  }

  module _ (h : Heap Value ℕ) (v : Value) (kept : Kept texts tuples h v) where
    abbrev heap : PlainHeap
    heap = plain_heap texts tuples h

    abbrev count : ℕ
    count = kept_length texts tuples h v

    abbrev behind_list : ℕ → Val → PlainHeap → Outcome Val
    behind_list n made behind = followed_by (kept_items behind kept.items (shown heap (plain texts tuples v))) (λ items last. gives made (with_list last n items))

    -- the list of an iterable's items
    list_is : iterating heap (plain texts tuples v) (list_from heap (plain texts tuples v)) ≡ with_visits (length kept.items) (followed_by (making heap (ListObject [] (room_for count))) (behind_list (used h)))
    list_is =
        ap (λ (o : Option (List Val)). over_items heap (plain texts tuples v) o (list_from heap (plain texts tuples v))) kept.has
        ∙ ap₂ (λ (n k : ℕ). with_visits (length kept.items) (followed_by (making heap (ListObject [] (room_for n))) (behind_list k))) kept.count (used_plain texts tuples h)

    -- its room doesn't fit
    pub list_refused : (new : Heap Value ℕ) (e : NoRoom) → Refused h new e (3 + room_for count) 0 → AllTold texts tuples h.objects
        → IsOutcome texts tuples h new (Err (Full e)) (iterating heap (plain texts tuples v) (list_from heap (plain texts tuples v)))
    list_refused new e r all =
        let cells : 3 + room_for count ≡ suc (2 + room_for count) = omega arith in
        let refused : Refused h new e (suc (2 + room_for count)) 0 = subst (λ (n : ℕ). Refused h new e n 0) cells r in
        let unfit = unfitted heap (ListObject [] (room_for count)) (fit_plain texts tuples h (suc (2 + room_for count)) 0 ∙ fits_false h (suc (2 + room_for count)) 0 refused.too_much) in
        subst (λ (o : Outcome Val). IsOutcome texts tuples h new (Err (Full e)) o) (sym list_is)
        (more_visits h new (Err (Full e)) (length kept.items) _
        (full_outcome texts tuples h new e (suc (2 + room_for count)) 0 _ refused all (ap (λ (o : Outcome Val). followed_by o (behind_list (used h))) unfit)))

    module _ (leads : Leads h.objects v) {made : Heap Value ℕ} {l : ℕ} (m : Made h made l (ListObject [] (room_for count))) where
      list_fits : making heap (ListObject [] (room_for count)) ≡ gives (At l) (plain_heap texts tuples made)
      list_fits =
          fitted heap (ListObject [] (room_for count)) (fit_plain texts tuples h (suc (2 + room_for count)) 0 ∙ fits_true h (suc (2 + room_for count)) 0 m.fits)
          ∙ ap₂ (λ (n : ℕ) (w : PlainHeap). gives (At n) w) (used_plain texts tuples h ∙ sym m.number) (sym (ap (plain_heap texts tuples) m.world ∙ made_plain texts tuples h (ListObject [] (room_for count))))

      pub list_behind : iterating heap (plain texts tuples v) (list_from heap (plain texts tuples v)) ≡ with_visits (length kept.items) (with_visits 0 (behind_list l (At l) (plain_heap texts tuples made)))
      list_behind =
          list_is ∙ (ap (λ (o : Outcome Val). with_visits (length kept.items) (followed_by o (behind_list (used h)))) list_fits
          ∙ ap (λ (n : ℕ). with_visits (length kept.items) (with_visits 0 (behind_list n (At l) (plain_heap texts tuples made)))) (sym m.number))

      same_items : arena_items tuples made v ≡ arena_items tuples h v
      same_items = items_kept tuples texts (keeps_made m) v leads

      same_spelled : spelled texts made v ≡ spelled texts h v
      same_spelled = spelled_kept tuples texts (keeps_made m) v leads

      no_items : items_at made l ≡ []
      no_items = ap items_of (object_made m)

      same_length : extended_length texts tuples made l v ≡ count
      same_length = omega (arith, ap (λ (xs : List Value). length xs) no_items, ap (λ (xs : List Value). length xs) same_items, ap (λ (bs : List ℕ). length bs) same_spelled)

      enough : nat_le count (room_at made l) ≡ true
      enough = le-leb count (room_at made l) (omega (arith, (room_is count).holds, ap room_of (object_made m)))

      pub no_growth : list_growth made l (extended_length texts tuples made l v) ≡ 0
      no_growth = ap (λ (n : ℕ). list_growth made l n) same_length ∙ ap (λ (b : Bool). cond b 0 (room_for count)) enough

      -- the room that was made is enough
      same_room : with_list_room made l (extended_length texts tuples made l v) ≡ made
      same_room =
          let there : Some (ListObject (items_at made l) (room_at made l)) ≡ object made.objects l = ap (λ (o : Option ArenaObject). Some (ListObject (items_of o) (room_of o))) (object_made m) ∙ sym (object_made m) in
          ap (λ (n : ℕ). with_list_room made l n) same_length
          ∙ (ap (λ (b : Bool). with_object (with_used made (cond b 0 (room_for count))) l (ListObject (items_at made l) (cond b (room_at made l) (room_for count)))) enough
          ∙ (ap (λ (os : List (Option ArenaObject)). record made { objects = set os l (Some (ListObject (items_at made l) (room_at made l))) }) (append-nil made.objects)
          ∙ (ap (λ (o : Option ArenaObject). record made { objects = set made.objects l o }) there
          ∙ ap (λ (os : List (Option ArenaObject)). record made { objects = os }) (set-get_or made.objects l None))))

      abbrev all : List Value
      all = arena_items tuples h v ++ texts_from (used made) (length (spelled texts h v))

      extended_is : extended texts tuples made l v ≡ with_list (with_texts made (spelled texts h v)) l all
      extended_is =
          ap (λ (w : Heap Value ℕ). with_list (with_texts w (spelled texts made v)) l (items_at made l ++ (arena_items tuples made v ++ texts_from (used w) (length (spelled texts made v))))) same_room
          ∙ (ap₂ (λ (xs ys : List Value). with_list (with_texts made (spelled texts made v)) l (xs ++ (ys ++ texts_from (used made) (length (spelled texts made v))))) no_items same_items
          ∙ ap (λ (bs : List ℕ). with_list (with_texts made bs) l (arena_items tuples h v ++ texts_from (used made) (length bs))) same_spelled)

      -- it takes all items
      pub list_filled : (new : Heap Value ℕ) (n : ListNo) → n.cell ≡ l → new ≡ extended texts tuples made l v
          → Fits made (list_growth made l (extended_length texts tuples made l v) + 2 * length (spelled texts made v)) (length (spelled texts made v))
          → Later h.objects new.objects → AllTold texts tuples new.objects → Leads new.objects (values.List n)
          → IsOutcome texts tuples h new (Ok (values.List n)) (iterating heap (plain texts tuples v) (list_from heap (plain texts tuples v)))
      list_filled new n number e f later told lead =
          let bytes = spelled texts h v in
          let fits : Fits made (2 * length bytes) (length bytes) =
          subst (λ (bs : List ℕ). Fits made (2 * length bs) (length bs)) same_spelled
          (fits_alone made _ (2 * length (spelled texts made v)) (length (spelled texts made v)) no_growth f) in
          let world : with_list (plain_heap texts tuples (with_texts made bytes)) l (map (plain texts tuples) all) ≡ plain_heap texts tuples new =
          sym (ap (plain_heap texts tuples) (e ∙ extended_is) ∙ list_put texts tuples (with_texts made bytes) l all) in
          subst (λ (o : Outcome Val). IsOutcome texts tuples h new (Ok (values.List n)) o) (sym list_behind)
          (more_visits h new (Ok (values.List n)) (length kept.items) _
          (answered texts tuples h new (values.List n) _ later told lead tt
          (ap (λ (o : Outcome (List Val)). with_visits 0 (followed_by o (λ items last. gives (At l) (with_list last l items)))) (kept.made made fits)
          ∙ ap₂ (λ (k : ℕ) (w : PlainHeap). gives (At k) w) (sym number) world)))

      -- a text of it doesn't fit
      pub list_stops : (new : Heap Value ℕ) (e : NoRoom) → NotExtended texts tuples made new e l v → Later h.objects new.objects → AllTold texts tuples new.objects
          → IsOutcome texts tuples h new (Err (Full e)) (iterating heap (plain texts tuples v) (list_from heap (plain texts tuples v)))
      list_stops new e (inl r) later told =
          let fits : Fits made 0 0 = record { cells_fit = omega (arith, used_made m, m.fits.cells_fit, ap (λ (w : Heap Value ℕ). w.cell_size) m.world); bytes_fit = omega (arith, m.fits.bytes_fit, ap (λ (w : Heap Value ℕ). w.bytes) m.world, ap (λ (w : Heap Value ℕ). w.byte_size) m.world) } in
          absurd (r.too_much (subst (λ (k : ℕ). Fits made k 0) (sym no_growth) fits))
      list_stops new e (inr both) later told =
          let r : TextRefused made new e (spelled texts h v) =
          subst (λ (bs : List ℕ). TextRefused made new e bs) same_spelled (subst (λ (w : Heap Value ℕ). TextRefused w new e (spelled texts made v)) same_room both.1) in
          subst (λ (o : Outcome Val). IsOutcome texts tuples h new (Err (Full e)) o) (sym list_behind)
          (more_visits h new (Err (Full e)) (length kept.items) _
          (stopped_outcome h new e _ later told
          (ap (λ (o : Outcome (List Val)). with_visits 0 (followed_by o (λ items last. gives (At l) (with_list last l items)))) (kept.stops made new e r))))
