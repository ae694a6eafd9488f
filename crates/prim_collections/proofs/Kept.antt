-- What is kept of the items of iterables: the items themselves, or texts that are made.
use Rattle.std.proofs.Common.{◌≡◌, ℕ, zero, suc, ◌+◌, ◌*◌, ◌<◌, List, [], ◌∷◌, ◌++◌, length, take, map, replicate, Bool, true, false, cond, Option, Some, None, Err, refl, sym, ap, ap₂, ◌∙◌, subst, arith, length-append}
use Rattle.std.proofs.lemmas.List.{length-map, append-nil}
use Rattle.std.proofs.lemmas.List.FromFn.{length-map-range_with_len, get_or-map-range_with_len, fill_by_all}
use Rattle.std.specs.List.{range_with_len}
use Rattle.prim_builtins.specs.arena_heap.declared.value.Value.{Value}
use Rattle.prim_builtins.specs.arena_heap.declared.value.Value.TheVariants as values
use Rattle.prim_builtins.specs.arena_heap.declared.value.StrNo.{StrNo}
use Rattle.prim_builtins.specs.arena_heap.declared.value.ConstNo.{ConstNo}
use Rattle.prim_builtins.specs.mpy_base.declared.room.NoRoom.{NoRoom}
use Rattle.prim_builtins.specs.mpy_base.World.{Object, ListObject, TupleObject, TextObject, DictObject, RangeObject, FunctionObject, ExceptionObject, MethodObject, ModuleObject, Heap, ObjectKind, AList, ATuple, AText, ADict, ARange, AFunction, AnException, AMethod, AModule, object, kind_of}
use Rattle.prim_builtins.specs.mpy_base.Weights.{used, does_fit, Fits, Made, Refused, cells_of, bytes_of, with_made}
use Rattle.prim_builtins.specs.mpy_base.Val.{Val, Int, At}
use Rattle.prim_builtins.specs.arena_heap.Values.{ArenaObject, Leads, IsStr}
use Rattle.prim_builtins.specs.arena_objects.Iterables as arena
use Rattle.prim_builtins.specs.arena_objects.Iterables.{given, spelled, or_nothing, with_texts, texts_from, TextRefused}
use Rattle.prim_builtins.specs.py_values.Names.{type_name}
use Rattle.prim_builtins.specs.arena_objects.Keys.{AllTold}
use Rattle.prim_builtins.specs.py_values.Shown.{PlainHeap, Shown, Text, Tuple, shown, shown_object, range_len}
use Rattle.prim_builtins.specs.py_primitives.Outcome as primitives
use Rattle.prim_builtins.specs.py_primitives.Faults.{NotIterable}
use Rattle.prim_builtins.specs.py_primitives.Outcome.{Outcome, gives, raises, is_full, making, making_text, making_texts, with_visits, followed_by}
use Rattle.prim_builtins.specs.py_primitives.Iterables.{items_in, shown_items, over_items, iterating, kept_items, letter, range_number}
use Rattle.prim_builtins.specs.py_primitives.Calls.{tuple_shown, tuple_from}
use Rattle.prim_builtins.specs.prim_walks.Plain.{plain, plain_pair, plain_object, plain_heap}
use Rattle.prim_builtins.proofs.prim_walks_lemmas.PlainValues.{object_plain, fixed_shown}
use Rattle.prim_builtins.specs.prim_faults.declared.fault.Fault.TheVariants as faults
use Rattle.prim_builtins.specs.prim_faults.declared.stop.Stop.TheVariants.{Raises}
use Rattle.prim_builtins.specs.prim_faults.declared.types.ValueType.{ValueType}
use Rattle.prim_builtins.specs.prim_faults.Types.{type_text}
use Rattle.prim_builtins.specs.prim_faults.Outcomes.{IsOutcome}
use Rattle.prim_builtins.proofs.prim_faults_lemmas.Outcomes.{raises_outcome, fits_true, fits_false, fitted, unfitted}
use Rattle.prim_builtins.proofs.prim_faults_lemmas.Heaps.{plain_made, cells_plain, bytes_plain, used_plain, fit_plain, no_room_plain, made_plain}
use Rattle.prim_builtins.specs.prim_operators.Operands.{IsNested}
use Rattle.prim_builtins.proofs.prim_operators_lemmas.ItemsShown.{str_shown}
use Rattle.prim_collections.specs.Collected.{is_iterable, is_str, is_tuple, kept_length}

-- makings
-- =======

-- what there is behind a making that doesn't fit
abbrev pub stopped : {A : Type 0} → NoRoom → PlainHeap → Outcome A
stopped e heap = record { answer = Err (primitives.Full e); heap = heap; visits = 0 }

-- texts
-- =====

abbrev pub one_byte : ℕ → ArenaObject
one_byte byte = TextObject (byte ∷ [])

abbrev pub text_more : Heap Value ℕ → ℕ → Heap Value ℕ
text_more h byte = with_made h (one_byte byte)

pub used_more : (h : Heap Value ℕ) (byte : ℕ) → used (text_more h byte) ≡ used h + 2
used_more h byte = let none : Option ArenaObject = None in length-append h.objects (Some (one_byte byte) ∷ replicate 1 none)

text_number : (m n : ℕ) → m ≡ n → values.Text (record { cell = m }) ≡ values.Text (record { cell = n })
text_number m n e = ap (λ (k : ℕ). values.Text (record { cell = k })) e

pub texts_first : (first n : ℕ) → texts_from first (suc n) ≡ values.Text (record { cell = first }) ∷ texts_from (first + 2) n
texts_first first n =
    let f : ℕ → Value = λ k. values.Text (record { cell = first + 2 * k }) in
    let f' : ℕ → Value = λ k. values.Text (record { cell = first + 2 + 2 * k }) in
    let rest : map f (range_with_len 1 n) ≡ texts_from (first + 2) n =
    fill_by_all f' (map f (range_with_len 1 n)) n values.None (length-map-range_with_len f 1 n)
    (λ k lt. get_or-map-range_with_len f 1 n k (suc k) values.None lt (omega arith) ∙ text_number (first + 2 * suc k) (first + 2 + 2 * k) (omega arith)) in
    ap₂ (λ (v : Value) (vs : List Value). v ∷ vs) (text_number (first + 2 * 0) first (omega arith)) rest

abbrev letters : List ℕ → List (List ℕ)
letters bytes = map (λ byte. byte ∷ []) bytes

abbrev behind_first : List (List ℕ) → Val → PlainHeap → Outcome (List Val)
behind_first rest v behind = followed_by (making_texts behind rest) (λ vs last. gives (v ∷ vs) last)

module _ (texts : StrNo → Option (List ℕ)) (tuples : ConstNo → Option (List Value)) where
  byte_fits : (h : Heap Value ℕ) (byte : ℕ) → Fits h 2 1 → making_text (plain_heap texts tuples h) (byte ∷ []) ≡ gives (At (used h)) (plain_heap texts tuples (text_more h byte))
  byte_fits h byte f =
      fitted (plain_heap texts tuples h) (TextObject (byte ∷ [])) (fit_plain texts tuples h 2 1 ∙ fits_true h 2 1 f)
      ∙ ap₂ (λ (n : ℕ) (w : PlainHeap). gives (At n) w) (used_plain texts tuples h) (sym (made_plain texts tuples h (one_byte byte)))

  byte_unfit : (h : Heap Value ℕ) (byte : ℕ) → (Fits h 2 1 → ⊥) → making_text (plain_heap texts tuples h) (byte ∷ []) ≡ is_full (plain_heap texts tuples h) 2 1
  byte_unfit h byte f = unfitted (plain_heap texts tuples h) (TextObject (byte ∷ [])) (fit_plain texts tuples h 2 1 ∙ fits_false h 2 1 f)

  fit_same : (h : Heap Value ℕ) (o : ArenaObject) → does_fit (plain_heap texts tuples h) (cells_of (plain_made texts tuples o)) (bytes_of (plain_made texts tuples o)) ≡ does_fit h (cells_of o) (bytes_of o)
  fit_same h o = ap₂ (λ (c b : ℕ). does_fit (plain_heap texts tuples h) (suc c) b) (cells_plain texts tuples o) (bytes_plain texts tuples o) ∙ fit_plain texts tuples h (cells_of o) (bytes_of o)

  -- a making that fitted
  pub making_fits : (h made : Heap Value ℕ) (n : ℕ) (o : ArenaObject) → Made h made n o → making (plain_heap texts tuples h) (plain_made texts tuples o) ≡ gives (At n) (plain_heap texts tuples made)
  making_fits h made n o m =
      fitted (plain_heap texts tuples h) (plain_made texts tuples o) (fit_same h o ∙ fits_true h (cells_of o) (bytes_of o) m.fits)
      ∙ ap₂ (λ (k : ℕ) (w : PlainHeap). gives (At k) w) (used_plain texts tuples h ∙ sym m.number) (sym (ap (plain_heap texts tuples) m.world ∙ made_plain texts tuples h o))

  -- and one that didn't
  pub making_unfit : (h new : Heap Value ℕ) (e : NoRoom) (o : ArenaObject) → Refused h new e (cells_of o) (bytes_of o) → making (plain_heap texts tuples h) (plain_made texts tuples o) ≡ is_full (plain_heap texts tuples h) (cells_of o) (bytes_of o)
  making_unfit h new e o r =
      unfitted (plain_heap texts tuples h) (plain_made texts tuples o) (fit_same h o ∙ fits_false h (cells_of o) (bytes_of o) r.too_much)
      ∙ ap₂ (λ (c b : ℕ). is_full {A = Val} (plain_heap texts tuples h) (suc c) b) (cells_plain texts tuples o) (bytes_plain texts tuples o)

  -- texts that fit
  pub texts_made : (h : Heap Value ℕ) (bytes : List ℕ) → Fits h (2 * length bytes) (length bytes)
      → making_texts (plain_heap texts tuples h) (letters bytes) ≡ gives (map (plain texts tuples) (texts_from (used h) (length bytes))) (plain_heap texts tuples (with_texts h bytes))
  texts_made h [] f = refl
  texts_made h (b ∷ bytes) f =
      let first : Fits h 2 1 = record { cells_fit = omega (arith, f.cells_fit); bytes_fit = omega (arith, f.bytes_fit) } in
      let rest : Fits (text_more h b) (2 * length bytes) (length bytes) = record { cells_fit = omega (arith, f.cells_fit, used_more h b); bytes_fit = omega (arith, f.bytes_fit) } in
      let all : texts_from (used h) (suc (length bytes)) ≡ values.Text (record { cell = used h }) ∷ texts_from (used (text_more h b)) (length bytes) =
      texts_first (used h) (length bytes) ∙ ap (λ (n : ℕ). values.Text (record { cell = used h }) ∷ texts_from n (length bytes)) (sym (used_more h b)) in
      ap (λ (o : Outcome Val). followed_by o (behind_first (letters bytes))) (byte_fits h b first)
      ∙ (ap (λ (o : Outcome (List Val)). with_visits 0 (followed_by o (λ vs last. gives (At (used h) ∷ vs) last))) (texts_made (text_more h b) bytes rest)
      ∙ ap (λ (vs : List Value). gives (map (plain texts tuples) vs) (plain_heap texts tuples (with_texts h (b ∷ bytes)))) (sym all))

  stops_behind : (h new : Heap Value ℕ) (e : NoRoom) (bytes : List ℕ) (made : ℕ) → made < length bytes → Fits h (2 * made) made → Refused (with_texts h (take made bytes)) new e 2 1
      → making_texts (plain_heap texts tuples h) (letters bytes) ≡ stopped e (plain_heap texts tuples new)
  stops_behind h new e [] made lt f r = absurd (omega arith)
  stops_behind h new e (b ∷ bytes) zero lt f r =
      ap (λ (o : Outcome Val). followed_by o (behind_first (letters bytes))) (byte_unfit h b r.too_much)
      ∙ ap₂ (λ (x : NoRoom) (w : PlainHeap). stopped x w) (no_room_plain texts tuples h 2 1 ∙ sym r.told) (ap (plain_heap texts tuples) (sym r.unchanged))
  stops_behind h new e (b ∷ bytes) (suc made) lt f r =
      let first : Fits h 2 1 = record { cells_fit = omega (arith, f.cells_fit); bytes_fit = omega (arith, f.bytes_fit) } in
      let rest : Fits (text_more h b) (2 * made) made = record { cells_fit = omega (arith, f.cells_fit, used_more h b); bytes_fit = omega (arith, f.bytes_fit) } in
      ap (λ (o : Outcome Val). followed_by o (behind_first (letters bytes))) (byte_fits h b first)
      ∙ ap (λ (o : Outcome (List Val)). with_visits 0 (followed_by o (λ vs last. gives (At (used h) ∷ vs) last))) (stops_behind (text_more h b) new e bytes made (omega arith) rest r)

  -- and texts of which one doesn't
  pub texts_stop : (h new : Heap Value ℕ) (e : NoRoom) (bytes : List ℕ) → TextRefused h new e bytes → making_texts (plain_heap texts tuples h) (letters bytes) ≡ stopped e (plain_heap texts tuples new)
  texts_stop h new e bytes r = stops_behind h new e bytes r.made r.behind r.fitted r.refused

-- iterables
-- =========

abbrev Gives : Option ObjectKind → Type 0
Gives (Some AList) = Unit {0}
Gives (Some ATuple) = Unit {0}
Gives (Some ADict) = Unit {0}
Gives (Some ARange) = Unit {0}
Gives _ = ⊥

abbrev GivesNot : Option ObjectKind → Type 0
GivesNot (Some AFunction) = Unit {0}
GivesNot (Some AnException) = Unit {0}
GivesNot (Some AMethod) = Unit {0}
GivesNot (Some AModule) = Unit {0}
GivesNot _ = ⊥

-- a value whose items are no new texts
abbrev pub IsPlain : Shown → Type 0
IsPlain (Text bytes) = ⊥
IsPlain _ = Unit {0}

abbrev pub NotTuple : Shown → Type 0
NotTuple (Tuple items) = ⊥
NotTuple _ = Unit {0}

abbrev KindOther : Option ObjectKind → Type 0
KindOther (Some ATuple) = ⊥
KindOther _ = Unit {0}

kept_plain : (heap : PlainHeap) (items : List Val) (s : Shown) → IsPlain s → kept_items heap items s ≡ gives items heap
kept_plain heap items (Text bytes) p = absurd p
kept_plain heap items _ p = refl

module _ (texts : StrNo → Option (List ℕ)) (tuples : ConstNo → Option (List Value)) where
  keys_plain : (pairs : List (Value × Value)) → map (λ (q : Val × Val). q.0) (map (plain_pair texts tuples) pairs) ≡ map (plain texts tuples) (map (λ (q : Value × Value). q.0) pairs)
  keys_plain [] = refl
  keys_plain (pair ∷ pairs) = ap (λ (vs : List Val). plain texts tuples pair.0 ∷ vs) (keys_plain pairs)

  numbers_plain : (f : ℕ → Value) (g : ℕ → Val) → ((k : ℕ) → g k ≡ plain texts tuples (f k)) → (ks : List ℕ) → map g ks ≡ map (plain texts tuples) (map f ks)
  numbers_plain f g same [] = refl
  numbers_plain f g same (k ∷ ks) = ap₂ (λ (v : Val) (vs : List Val). v ∷ vs) (same k) (numbers_plain f g same ks)

  object_items : (o : Option ArenaObject) → Gives (kind_of o) → shown_items (shown_object (plain_object texts tuples o)) ≡ Some (map (plain texts tuples) (given o))
  object_items (Some (ListObject items room)) g = refl
  object_items (Some (TupleObject items)) g = refl
  object_items (Some (DictObject pairs room)) g = ap (λ (vs : List Val). Some vs) (keys_plain pairs)
  object_items (Some (RangeObject start stop step)) g =
      ap (λ (vs : List Val). Some vs) (numbers_plain (λ k. values.Int (range_number start step k)) (λ k. Int (range_number start step k)) (λ k. refl) (range_with_len 0 (range_len start stop step)))
  object_items _ g = absurd g

  object_other : (o : Option ArenaObject) → GivesNot (kind_of o) → shown_items (shown_object (plain_object texts tuples o)) ≡ None
  object_other (Some (FunctionObject name module_name code names defaults)) g = refl
  object_other (Some (ExceptionObject kind args file line name)) g = refl
  object_other (Some (MethodObject object method)) g = refl
  object_other (Some (ModuleObject name names)) g = refl
  object_other _ g = absurd g

  object_no_tuple : (o : Option ArenaObject) → KindOther (kind_of o) → NotTuple (shown_object (plain_object texts tuples o))
  object_no_tuple None g = tt
  object_no_tuple (Some (ListObject items room)) g = tt
  object_no_tuple (Some (TupleObject items)) g = absurd g
  object_no_tuple (Some (TextObject bytes)) g = tt
  object_no_tuple (Some (DictObject pairs room)) g = tt
  object_no_tuple (Some (FunctionObject name module_name code names defaults)) g = tt
  object_no_tuple (Some (ExceptionObject kind args file line name)) g = tt
  object_no_tuple (Some (MethodObject object method)) g = tt
  object_no_tuple (Some (RangeObject start stop step)) g = tt
  object_no_tuple (Some (ModuleObject name names)) g = tt

  object_tuple : (o : Option ArenaObject) → kind_of o ≡ Some ATuple → shown_object (plain_object texts tuples o) ≡ Tuple (map (plain texts tuples) (given o))
  object_tuple (Some (TupleObject items)) e = refl
  object_tuple _ e = absurd cc

  object_is_plain : (o : Option ArenaObject) → Gives (kind_of o) → IsPlain (shown_object (plain_object texts tuples o))
  object_is_plain (Some (ListObject items room)) g = tt
  object_is_plain (Some (TupleObject items)) g = tt
  object_is_plain (Some (DictObject pairs room)) g = tt
  object_is_plain (Some (RangeObject start stop step)) g = tt
  object_is_plain _ g = absurd g

  module _ (h : Heap Value ℕ) (v : Value) where
    -- what is kept of an iterable's items in another heap
    pub record Kept : Type 0 where
      pub items : List Val
      pub has : items_in (plain_heap texts tuples h) (plain texts tuples v) ≡ Some items
      pub count : length items ≡ kept_length texts tuples h v
      pub made : (g : Heap Value ℕ) → Fits g (2 * length (spelled texts h v)) (length (spelled texts h v))
          → kept_items (plain_heap texts tuples g) items (shown (plain_heap texts tuples h) (plain texts tuples v))
          ≡ gives (map (plain texts tuples) (arena.items_in tuples h v ++ texts_from (used g) (length (spelled texts h v)))) (plain_heap texts tuples (with_texts g (spelled texts h v)))
      pub stops : (g new : Heap Value ℕ) (e : NoRoom) → TextRefused g new e (spelled texts h v)
          → kept_items (plain_heap texts tuples g) items (shown (plain_heap texts tuples h) (plain texts tuples v)) ≡ stopped e (plain_heap texts tuples new)

    kept_str : IsStr v → Leads h.objects v → arena.items_in tuples h v ≡ [] → Kept
    kept_str str leads none =
        let bytes = spelled texts h v in
        let shows : shown (plain_heap texts tuples h) (plain texts tuples v) ≡ Text bytes = str_shown texts tuples h v str leads in
        record {
          items = map letter bytes;
          has = ap shown_items shows;
          count = omega (arith, length-map bytes letter, ap (λ (vs : List Value). length vs) none);
          made = λ g f. ap (kept_items (plain_heap texts tuples g) (map letter bytes)) shows ∙ (texts_made texts tuples g bytes f
              ∙ ap (λ (vs : List Value). gives (map (plain texts tuples) (vs ++ texts_from (used g) (length bytes))) (plain_heap texts tuples (with_texts g bytes))) (sym none));
          stops = λ g new e r. ap (kept_items (plain_heap texts tuples g) (map letter bytes)) shows ∙ texts_stop texts tuples g new e bytes r;
        }

    kept_others : shown_items (shown (plain_heap texts tuples h) (plain texts tuples v)) ≡ Some (map (plain texts tuples) (arena.items_in tuples h v)) → IsPlain (shown (plain_heap texts tuples h) (plain texts tuples v)) → spelled texts h v ≡ [] → Kept
    kept_others has p none =
        let xs = arena.items_in tuples h v in
        record {
          items = map (plain texts tuples) xs;
          has = has;
          count = length-map xs (plain texts tuples) ∙ omega (arith, ap (λ (bs : List ℕ). length bs) none);
          made = λ g f. kept_plain (plain_heap texts tuples g) (map (plain texts tuples) xs) _ p
              ∙ (ap (λ (vs : List Value). gives (map (plain texts tuples) vs) (plain_heap texts tuples g)) (sym (append-nil xs))
              ∙ ap (λ (bs : List ℕ). gives (map (plain texts tuples) (xs ++ texts_from (used g) (length bs))) (plain_heap texts tuples (with_texts g bs))) (sym none));
          stops = λ g new e r. absurd (omega (arith, r.behind, ap (λ (bs : List ℕ). length bs) none));
        }

  module _ (h : Heap Value ℕ) where
    items_here : (n : ℕ) (kind : ObjectKind) → kind_of (object h.objects n) ≡ Some kind → Gives (Some kind)
        → shown_items (shown_object (object (plain_heap texts tuples h).objects n)) ≡ Some (map (plain texts tuples) (given (object h.objects n)))
    items_here n kind is g =
        ap (λ (o : Option (Object Val (List ℕ))). shown_items (shown_object o)) (object_plain texts tuples h.objects n) ∙ object_items (object h.objects n) (subst Gives (sym is) g)

    plain_here : (n : ℕ) (kind : ObjectKind) → kind_of (object h.objects n) ≡ Some kind → Gives (Some kind) → IsPlain (shown_object (object (plain_heap texts tuples h).objects n))
    plain_here n kind is g =
        subst (λ (o : Option (Object Val (List ℕ))). IsPlain (shown_object o)) (sym (object_plain texts tuples h.objects n)) (object_is_plain (object h.objects n) (subst Gives (sym is) g))

    -- what an iterable that is no str shows
    pub others_shown : (v : Value) → is_iterable v ≡ true → is_str v ≡ false → Leads h.objects v → IsNested tuples v
        → (items_in (plain_heap texts tuples h) (plain texts tuples v) ≡ Some (map (plain texts tuples) (arena.items_in tuples h v))) × IsPlain (shown (plain_heap texts tuples h) (plain texts tuples v))
    others_shown (values.Fixed c) is other leads nests =
        let shows : shown (plain_heap texts tuples h) (plain texts tuples (values.Fixed c)) ≡ Tuple (map (plain texts tuples) (or_nothing (tuples c))) = fixed_shown texts tuples (plain_heap texts tuples h) c nests in
        (ap shown_items shows, subst IsPlain (sym shows) tt)
    others_shown values.Empty is other leads nests = (refl, tt)
    others_shown (values.List l) is other leads nests = (items_here l.cell AList leads.meets tt, plain_here l.cell AList leads.meets tt)
    others_shown (values.Tuple l) is other leads nests = (items_here l.cell ATuple leads.meets tt, plain_here l.cell ATuple leads.meets tt)
    others_shown (values.Dict l) is other leads nests = (items_here l.cell ADict leads.meets tt, plain_here l.cell ADict leads.meets tt)
    others_shown (values.Range l) is other leads nests = (items_here l.cell ARange leads.meets tt, plain_here l.cell ARange leads.meets tt)
    others_shown _ is other leads nests = absurd cc

    kept_other : (v : Value) → is_iterable v ≡ true → is_str v ≡ false → Leads h.objects v → IsNested tuples v → spelled texts h v ≡ [] → Kept h v
    kept_other v is other leads nests none = let both = others_shown v is other leads nests in kept_others h v both.0 both.1 none

    -- each iterable
    pub iterable_kept : (v : Value) → is_iterable v ≡ true → Leads h.objects v → IsNested tuples v → Kept h v
    iterable_kept (values.Str s) is leads nests = kept_str h (values.Str s) tt leads refl
    iterable_kept (values.Text t) is leads nests = kept_str h (values.Text t) tt leads refl
    iterable_kept (values.Fixed c) is leads nests = kept_other (values.Fixed c) refl refl leads nests refl
    iterable_kept values.Empty is leads nests = kept_other values.Empty refl refl leads nests refl
    iterable_kept (values.List l) is leads nests = kept_other (values.List l) refl refl leads nests refl
    iterable_kept (values.Tuple l) is leads nests = kept_other (values.Tuple l) refl refl leads nests refl
    iterable_kept (values.Dict l) is leads nests = kept_other (values.Dict l) refl refl leads nests refl
    iterable_kept (values.Range l) is leads nests = kept_other (values.Range l) refl refl leads nests refl
    iterable_kept _ is leads nests = absurd cc

    other_here : (n : ℕ) (kind : ObjectKind) → kind_of (object h.objects n) ≡ Some kind → GivesNot (Some kind) → shown_items (shown_object (object (plain_heap texts tuples h).objects n)) ≡ None
    other_here n kind is g =
        ap (λ (o : Option (Object Val (List ℕ))). shown_items (shown_object o)) (object_plain texts tuples h.objects n) ∙ object_other (object h.objects n) (subst GivesNot (sym is) g)

    -- and each other value
    pub other_kept : (v : Value) → is_iterable v ≡ false → Leads h.objects v → items_in (plain_heap texts tuples h) (plain texts tuples v) ≡ None
    other_kept values.None is leads = refl
    other_kept (values.Bool b) is leads = refl
    other_kept (values.Int z) is leads = refl
    other_kept (values.Built b) is leads = refl
    other_kept (values.Fun f) is leads = other_here f.cell AFunction leads.meets tt
    other_kept (values.Exc e) is leads = other_here e.cell AnException leads.meets tt
    other_kept (values.Method m) is leads = other_here m.cell AMethod leads.meets tt
    other_kept (values.Module m) is leads = other_here m.cell AModule leads.meets tt
    other_kept _ is leads = absurd cc

    pub other_raises : (v : Value) → is_iterable v ≡ false → Leads h.objects v → AllTold texts tuples h.objects → (t : ValueType) → type_text t ≡ type_name (plain_heap texts tuples h) (plain texts tuples v) → (next : List Val → Outcome Val)
        → IsOutcome texts tuples h h (Err (Raises (faults.NotIterable t))) (iterating (plain_heap texts tuples h) (plain texts tuples v) next)
    other_raises v is leads all t name next =
        raises_outcome texts tuples h (faults.NotIterable t) _ all tt
        (ap (λ (o : Option (List Val)). over_items (plain_heap texts tuples h) (plain texts tuples v) o next) (other_kept v is leads)
        ∙ ap (λ (bytes : List ℕ). raises (NotIterable bytes) (plain_heap texts tuples h)) (sym name))

    -- a tuple shows its items
    pub tuple_shows : (v : Value) → is_tuple v ≡ true → Leads h.objects v → IsNested tuples v → shown (plain_heap texts tuples h) (plain texts tuples v) ≡ Tuple (map (plain texts tuples) (arena.items_in tuples h v))
    tuple_shows (values.Fixed c) is leads nests = fixed_shown texts tuples (plain_heap texts tuples h) c nests
    tuple_shows values.Empty is leads nests = refl
    tuple_shows (values.Tuple t) is leads nests = ap shown_object (object_plain texts tuples h.objects t.cell) ∙ object_tuple (object h.objects t.cell) leads.meets
    tuple_shows _ is leads nests = absurd cc

    no_tuple_here : (n : ℕ) (kind : ObjectKind) → kind_of (object h.objects n) ≡ Some kind → KindOther (Some kind) → NotTuple (shown_object (object (plain_heap texts tuples h).objects n))
    no_tuple_here n kind is g =
        subst (λ (o : Option (Object Val (List ℕ))). NotTuple (shown_object o)) (sym (object_plain texts tuples h.objects n)) (object_no_tuple (object h.objects n) (subst KindOther (sym is) g))

    -- and other values show something else
    pub other_shows : (v : Value) → is_tuple v ≡ false → Leads h.objects v → NotTuple (shown (plain_heap texts tuples h) (plain texts tuples v))
    other_shows values.None is leads = tt
    other_shows (values.Bool b) is leads = tt
    other_shows (values.Int z) is leads = tt
    other_shows (values.Str s) is leads = tt
    other_shows (values.Built b) is leads = tt
    other_shows (values.List l) is leads = no_tuple_here l.cell AList leads.meets tt
    other_shows (values.Dict l) is leads = no_tuple_here l.cell ADict leads.meets tt
    other_shows (values.Text l) is leads = no_tuple_here l.cell AText leads.meets tt
    other_shows (values.Fun l) is leads = no_tuple_here l.cell AFunction leads.meets tt
    other_shows (values.Exc l) is leads = no_tuple_here l.cell AnException leads.meets tt
    other_shows (values.Method l) is leads = no_tuple_here l.cell AMethod leads.meets tt
    other_shows (values.Range l) is leads = no_tuple_here l.cell ARange leads.meets tt
    other_shows (values.Module l) is leads = no_tuple_here l.cell AModule leads.meets tt
    other_shows _ is leads = absurd cc

pub iterated : (heap : PlainHeap) (v : Val) (s : Shown) → NotTuple s → tuple_shown heap v s ≡ iterating heap v (tuple_from heap v)
iterated heap v (Tuple items) p = absurd p
iterated heap v _ p = refl
