-- Iterables that are unpacked, as the meaning has them.
use Rattle.std.proofs.Common.{◌≡◌, ℕ, ◌+◌, ◌*◌, ◌<◌, ◌≤◌, List, [], ◌++◌, length, take, map, Bool, true, false, cond, Option, Some, Result, Ok, Err, refl, sym, ap, ◌∙◌, subst, arith}
use Rattle.std.specs.Prelude.{nat_lt}
use Rattle.std.specs.List.{All, range_with_len}
use Rattle.std.proofs.lemmas.List.{length-map, append-nil}
use Rattle.std.proofs.lemmas.List.FromFn.{length-map-range_with_len, get_or-map-range_with_len}
use Rattle.prim_operators.specs.arena_heap.declared.value.Value.{Value}
use Rattle.prim_operators.specs.arena_heap.declared.value.Value.TheVariants as values
use Rattle.prim_operators.specs.arena_heap.declared.value.StrNo.{StrNo}
use Rattle.prim_operators.specs.arena_heap.declared.value.ConstNo.{ConstNo}
use Rattle.prim_operators.specs.arena_heap.declared.value.TextNo.{TextNo}
use Rattle.prim_operators.specs.mpy_base.declared.room.NoRoom.{NoRoom}
use Rattle.prim_operators.specs.mpy_base.World.{Heap, Later}
use Rattle.prim_operators.specs.mpy_base.Weights.{used, Fits, Refused}
use Rattle.prim_operators.specs.mpy_base.Val.{Val, Int}
use Rattle.prim_operators.proofs.mpy_base_lemmas.Worlds.{later_same}
use Rattle.prim_operators.specs.arena_heap.Values.{Leads, IsStr}
use Rattle.prim_operators.specs.arena_objects.Keys.{AllTold}
use Rattle.prim_operators.specs.arena_objects.Iterables as arena
use Rattle.prim_operators.specs.arena_objects.Iterables.{spelled, with_texts, texts_from, TextRefused}
use Rattle.prim_operators.proofs.arena_objects_lemmas.MadeTexts.{texts_are, texts_later, texts_told}
use Rattle.prim_operators.specs.py_values.Shown.{Shown, Text, Tuple, Items, Pairs, Range, range_len, shown}
use Rattle.prim_operators.specs.py_values.Names.{type_name}
use Rattle.prim_operators.specs.py_primitives.Faults.{NotIterable, UnpacksMore, UnpacksFewer}
use Rattle.prim_operators.specs.py_primitives.Outcome as outcomes
use Rattle.prim_operators.specs.py_primitives.Outcome.{Outcome, gives, raises, is_full}
use Rattle.prim_operators.specs.py_primitives.Iterables.{letter, range_number, shown_items, shown_length, items_in, kept_items, over_items, use_iter}
use Rattle.prim_operators.specs.py_primitives.Uses.{unpack_items, unpack}
use Rattle.prim_operators.specs.prim_walks.Plain.{plain, plain_heap}
use Rattle.prim_operators.specs.prim_faults.declared.fault.Fault.{Fault}
use Rattle.prim_operators.specs.prim_faults.declared.stop.Stop.{Stop}
use Rattle.prim_operators.specs.prim_faults.declared.stop.Stop.TheVariants.{Raises, Full}
use Rattle.prim_operators.specs.prim_faults.Faults.{plain_fault, IsKnown, IsKnownFault}
use Rattle.prim_operators.specs.prim_faults.Outcomes.{plain_stop, IsKnownAnswer, IsOutcome}
use Rattle.prim_operators.proofs.prim_faults_lemmas.Heaps.{no_room_plain}
use Rattle.prim_operators.proofs.ItemsShown.{str_shown}
use Rattle.prim_assignments.specs.Slots.{AreKnown, FillsSlots}
use Rattle.prim_assignments.proofs.Iterated.{Iterated, of_text, raised_by}

-- as many items as are shown
pub as_many : (s : Shown) (items : List Val) → shown_items s ≡ Some items → length items ≡ shown_length s
as_many (Text bytes) items e = let same : map letter bytes ≡ items = cc in ap (λ (vs : List Val). length vs) (sym same) ∙ length-map bytes letter
as_many (Tuple vs) items e = let same : vs ≡ items = cc in ap (λ (vs : List Val). length vs) (sym same)
as_many (Items vs) items e = let same : vs ≡ items = cc in ap (λ (vs : List Val). length vs) (sym same)
as_many (Pairs pairs) items e =
    let keys : List Val = map (λ (pair : Val × Val). pair.0) pairs in
    let same : keys ≡ items = cc in
    ap (λ (vs : List Val). length vs) (sym same) ∙ length-map pairs (λ (pair : Val × Val). pair.0)
as_many (Range start stop step) items e =
    let f : ℕ → Val = λ at. Int (range_number start step at) in
    let numbers : List Val = map f (range_with_len 0 (range_len start stop step)) in
    let same : numbers ≡ items = cc in
    ap (λ (vs : List Val). length vs) (sym same) ∙ length-map-range_with_len f 0 (range_len start stop step)
as_many _ items e = absurd cc

pub is_below : (m n : ℕ) → m < n → nat_lt m n ≡ true
is_below m n lt = grind arith

pub is_not_below : (m n : ℕ) → n ≤ m → nat_lt m n ≡ false
is_not_below m n le = grind arith

module _ (texts : StrNo → Option (List ℕ)) (tuples : ConstNo → Option (List Value)) where
  module _ (h : Heap Value ℕ) where
    pub str_has_bytes : (v : Value) → IsStr v → arena.items_in tuples h v ≡ []
    str_has_bytes (values.Str s) str = refl
    str_has_bytes (values.Text t) str = refl
    str_has_bytes _ str = absurd str

    pub other_has_items : (v : Value) → ((s : StrNo) → v ≡ values.Str s → ⊥) → ((t : TextNo) → v ≡ values.Text t → ⊥) → spelled texts h v ≡ []
    other_has_items (values.Str s) no_str no_text = absurd (no_str s refl)
    other_has_items (values.Text t) no_str no_text = absurd (no_text t refl)
    other_has_items _ no_str no_text = refl

    module _ (v : Value) (i : Iterated texts tuples h v) where
      pub length_iterated : shown_length (shown (plain_heap texts tuples h) (plain texts tuples v)) ≡ length (arena.items_in tuples h v) + length (spelled texts h v)
      length_iterated = sym (as_many (shown (plain_heap texts tuples h) (plain texts tuples v)) i.items i.shows) ∙ i.count

      pub unpack_by : (want : ℕ) (more fewer : Bool) → nat_lt (length i.items) want ≡ more → nat_lt want (length i.items) ≡ fewer
          → unpack (plain_heap texts tuples h) want (plain texts tuples v)
          ≡ cond more (raises (UnpacksMore (length i.items)) (plain_heap texts tuples h))
          (cond fewer (raises (UnpacksFewer want) (plain_heap texts tuples h)) (kept_items (plain_heap texts tuples h) i.items (shown (plain_heap texts tuples h) (plain texts tuples v))))
      unpack_by want more fewer p q =
          let heap = plain_heap texts tuples h in
          let w = plain texts tuples v in
          let by : Bool → Bool → Outcome (List Val) = λ b c. cond b (raises (UnpacksMore (length i.items)) heap) (cond c (raises (UnpacksFewer want) heap) (kept_items heap i.items (shown heap w))) in
          ap (λ (o : Option (List Val)). over_items heap w o (unpack_items heap want w)) i.shows
          ∙ (ap (λ (b : Bool). by b (nat_lt want (length i.items))) p ∙ ap (λ (c : Bool). by more c) q)

    known_stop : (slots : List Value) (stop : Stop) → IsKnownAnswer texts tuples h.objects (Err stop) → AreKnown texts tuples h.objects slots (Err stop)
    known_stop slots (Raises fault) known = known
    known_stop slots (Full e) known = tt

    -- what `iter` raises
    pub iter_slots : (slots : List Value) (want : ℕ) (v : Val) (stop : Stop) → IsOutcome texts tuples h h (Err stop) (use_iter (plain_heap texts tuples h) v)
        → FillsSlots texts tuples h h slots (Err stop) (unpack (plain_heap texts tuples h) want v)
    iter_slots slots want v stop is =
        let heap = plain_heap texts tuples h in
        let items = items_in heap v in
        let use_is = raised_by heap v items (plain_stop texts tuples h stop) (λ vs. gives v heap) is.answer in
        let unpack_is = raised_by heap v items (plain_stop texts tuples h stop) (unpack_items heap want v) is.answer in
        let no_value : outcomes.Stop → Result Val outcomes.Stop = λ s. Err s in
        let no_values : outcomes.Stop → Result (List Val) outcomes.Stop = λ s. Err s in
        let stops : no_value (plain_stop texts tuples h stop) ≡ no_value (outcomes.Raises (NotIterable (type_name heap v))) = is.answer ∙ ap (λ (o : Outcome Val). o.answer) use_is in
        let same : plain_stop texts tuples h stop ≡ outcomes.Raises (NotIterable (type_name heap v)) = cc in
        record {
          answer = ap no_values same ∙ sym (ap (λ (o : Outcome (List Val)). o.answer) unpack_is);
          heap = sym (ap (λ (o : Outcome (List Val)). o.heap) unpack_is);
          known = known_stop slots stop is.known;
          later = later_same h.objects;
          all_told = is.all_told;
        }

    -- another fault
    pub raised_slots : (slots : List Value) (fault : Fault) (outcome : Outcome (List Val)) → AllTold texts tuples h.objects → IsKnownFault texts tuples h.objects fault
        → outcome ≡ raises (plain_fault texts tuples h fault) (plain_heap texts tuples h) → FillsSlots texts tuples h h slots (Err (Raises fault)) outcome
    raised_slots slots fault outcome all known e = record {
      answer = sym (ap (λ (o : Outcome (List Val)). o.answer) e);
      heap = sym (ap (λ (o : Outcome (List Val)). o.heap) e);
      known = known;
      later = later_same h.objects;
      all_told = all;
    }

  -- values
  pub filled_slots : (old new : Heap Value ℕ) (slots : List Value) (outcome : Outcome (List Val)) → Later old.objects new.objects → AllTold texts tuples new.objects → All (IsKnown texts tuples new.objects) slots
      → outcome ≡ gives (map (plain texts tuples) slots) (plain_heap texts tuples new) → FillsSlots texts tuples old new slots (Ok tt) outcome
  filled_slots old new slots outcome later all known e = record {
    answer = sym (ap (λ (o : Outcome (List Val)). o.answer) e);
    heap = sym (ap (λ (o : Outcome (List Val)). o.heap) e);
    known = known;
    later = later;
    all_told = all;
  }

  -- a making that didn't fit behind others that did
  pub full_slots : (old mid new : Heap Value ℕ) (slots : List Value) (e : NoRoom) (cells bytes : ℕ) (outcome : Outcome (List Val)) → Refused mid new e cells bytes → Later old.objects new.objects → AllTold texts tuples new.objects
      → outcome ≡ is_full (plain_heap texts tuples mid) cells bytes → FillsSlots texts tuples old new slots (Err (Full e)) outcome
  full_slots old mid new slots e cells bytes outcome r later all is = record {
    answer = ap (λ (x : NoRoom). Err (outcomes.Full x)) (r.told ∙ sym (no_room_plain texts tuples mid cells bytes)) ∙ sym (ap (λ (o : Outcome (List Val)). o.answer) is);
    heap = ap (plain_heap texts tuples) r.unchanged ∙ sym (ap (λ (o : Outcome (List Val)). o.heap) is);
    known = tt;
    later = later;
    all_told = all;
  }

  -- the texts that were made are known
  pub texts_known : (h : Heap Value ℕ) (bytes : List ℕ) → All (IsKnown texts tuples (with_texts h bytes).objects) (texts_from (used h) (length bytes))
  texts_known h bytes = λ k d lt.
      let f : ℕ → Value = λ k. values.Text (record { cell = used h + 2 * k }) in
      let n = length bytes in
      let few : k < n = omega (arith, length-map-range_with_len f 0 n) in
      subst (IsKnown texts tuples (with_texts h bytes).objects) (sym (get_or-map-range_with_len f 0 n k k d few (omega arith)))
      (record { leads = record { meets = texts_are h bytes k few; small = tt }; told = tt })

  module _ (h : Heap Value ℕ) (v : Value) (all : AllTold texts tuples h.objects) where
    -- an iterable with `want` items
    counted : (i : Iterated texts tuples h v) (want : ℕ) → want ≡ length i.items
        → unpack (plain_heap texts tuples h) want (plain texts tuples v) ≡ kept_items (plain_heap texts tuples h) i.items (shown (plain_heap texts tuples h) (plain texts tuples v))
    counted i want e = unpack_by h v i want false false (is_not_below (length i.items) want (omega arith)) (is_not_below want (length i.items) (omega arith))

    -- a str
    module _ (str : IsStr v) (leads : Leads h.objects v) where
      letters : Iterated texts tuples h v
      letters = of_text texts tuples h v (str_has_bytes h v str) (str_shown texts tuples h v str leads)

      letters_count : (want : ℕ) → want ≡ length (spelled texts h v) → want ≡ length letters.items
      letters_count want e = omega (arith, letters.count, ap (λ (xs : List Value). length xs) (str_has_bytes h v str))

      pub letters_slots : Fits h (2 * length (spelled texts h v)) (length (spelled texts h v))
          → FillsSlots texts tuples h (with_texts h (spelled texts h v)) (texts_from (used h) (length (spelled texts h v))) (Ok tt) (unpack (plain_heap texts tuples h) (length (spelled texts h v)) (plain texts tuples v))
      letters_slots fits =
          let bytes = spelled texts h v in
          let new = with_texts h bytes in
          let made = texts_from (used h) (length bytes) in
          filled_slots h new made _ (texts_later h bytes) (texts_told texts tuples h bytes all) (texts_known h bytes)
          (counted letters (length bytes) (letters_count (length bytes) refl)
          ∙ (letters.kept h fits ∙ ap (λ (xs : List Value). gives (map (plain texts tuples) (xs ++ made)) (plain_heap texts tuples new)) (str_has_bytes h v str)))

      pub stopped_slots : (new : Heap Value ℕ) (slots : List Value) (e : NoRoom) (want : ℕ) → want ≡ length (spelled texts h v) → TextRefused h new e (spelled texts h v)
          → FillsSlots texts tuples h new slots (Err (Full e)) (unpack (plain_heap texts tuples h) want (plain texts tuples v))
      stopped_slots new slots e want count stop =
          let bytes = take stop.made (spelled texts h v) in
          let mid = with_texts h bytes in
          let later : Later h.objects new.objects = subst (λ (w : Heap Value ℕ). Later h.objects w.objects) (sym stop.refused.unchanged) (texts_later h bytes) in
          let told : AllTold texts tuples new.objects = subst (λ (w : Heap Value ℕ). AllTold texts tuples w.objects) (sym stop.refused.unchanged) (texts_told texts tuples h bytes all) in
          full_slots h mid new slots e 2 1 _ stop.refused later told
          (counted letters want (letters_count want count) ∙ letters.stopped h stop.made stop.behind stop.fitted stop.refused.too_much)

    -- another iterable
    module _ (i : Iterated texts tuples h v) (none : spelled texts h v ≡ []) where
      pub items_count : (want : ℕ) → want ≡ shown_length (shown (plain_heap texts tuples h) (plain texts tuples v)) → want ≡ length (arena.items_in tuples h v)
      items_count want e = omega (arith, length_iterated h v i, ap (λ (bs : List ℕ). length bs) none)

      pub items_slots : (want : ℕ) (slots : List Value) → want ≡ shown_length (shown (plain_heap texts tuples h) (plain texts tuples v)) → Fits h 0 0 → slots ≡ arena.items_in tuples h v → All (IsKnown texts tuples h.objects) slots
          → FillsSlots texts tuples h h slots (Ok tt) (unpack (plain_heap texts tuples h) want (plain texts tuples v))
      items_slots want slots count fits filled known =
          let xs = arena.items_in tuples h v in
          let as_many_items : want ≡ length i.items = omega (arith, i.count, items_count want count, ap (λ (bs : List ℕ). length bs) none) in
          let room : Fits h (2 * length (spelled texts h v)) (length (spelled texts h v)) = subst (λ (bs : List ℕ). Fits h (2 * length bs) (length bs)) (sym none) fits in
          filled_slots h h slots _ (later_same h.objects) all known
          (counted i want as_many_items
          ∙ (i.kept h room
          ∙ (ap (λ (bs : List ℕ). gives (map (plain texts tuples) (xs ++ texts_from (used h) (length bs))) (plain_heap texts tuples (with_texts h bs))) none
          ∙ ap (λ (ys : List Value). gives (map (plain texts tuples) ys) (plain_heap texts tuples h)) (append-nil xs ∙ sym filled))))

    -- an iterable with too few items, or too many
    module _ (i : Iterated texts tuples h v) (have want : ℕ) (shown_is : have ≡ shown_length (shown (plain_heap texts tuples h) (plain texts tuples v))) where
      have_items : length i.items ≡ have
      have_items = as_many (shown (plain_heap texts tuples h) (plain texts tuples v)) i.items i.shows ∙ sym shown_is

      pub unpacks_more : have < want → unpack (plain_heap texts tuples h) want (plain texts tuples v) ≡ raises (UnpacksMore have) (plain_heap texts tuples h)
      unpacks_more lt =
          unpack_by h v i want true (nat_lt want (length i.items)) (is_below (length i.items) want (omega (arith, have_items))) refl
          ∙ ap (λ (n : ℕ). raises {A = List Val} (UnpacksMore n) (plain_heap texts tuples h)) have_items

      pub unpacks_fewer : want < have → unpack (plain_heap texts tuples h) want (plain texts tuples v) ≡ raises (UnpacksFewer want) (plain_heap texts tuples h)
      unpacks_fewer lt = unpack_by h v i want false true (is_not_below (length i.items) want (omega (arith, have_items))) (is_below want (length i.items) (omega (arith, have_items)))
