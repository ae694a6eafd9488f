-- The values and the objects of a snapshot's heap, by their parts: heaps of one snapshot differ by the numbers of their objects alone.
use Rattle.std.proofs.Common.{◌≡◌, ◌≢◌, ℕ, ◌-◌, ◌<◌, ◌≤◌, Bool, true, false, List, [], ◌∷◌, length, map, drop, Option, Some, None, slice_get, position, refl, sym, ap, ap₂, ◌∙◌, subst, arith}
use Rattle.std.specs.Prelude.{unwrap_or, option_and_then, is_some}
use Rattle.std.specs.List.{filter_map, list_any, AllByRecursion as Each}
use Rattle.std.specs.Option.{option_map}
use Rattle.std.specs.Str.{bytes_eq}
use Rattle.std.proofs.lemmas.List.{length-map}
use Rattle.mpy_base.specs.declared.builtin.Builtin.TheVariants as builtins
use Rattle.mpy_base.specs.declared.kind.Kind.TheVariants as raised
use Rattle.mpy_base.specs.World.{Heap, Object, ListObject, TupleObject, TextObject, DictObject, FunctionObject, ExceptionObject, MethodObject, RangeObject, ModuleObject, ObjectKind, ADict, AModule, IsA, object, kind_of, names_of}
use Rattle.mpy_base.specs.Val.{Val, Vals, Only, Then, Nil, Truth, Int, Str, Fixed, Empty, Built, At}
use Rattle.arena_heap.specs.declared.value.Value.{Value}
use Rattle.arena_heap.specs.declared.value.Value.TheVariants as values
use Rattle.arena_heap.specs.declared.value.StrNo.{StrNo}
use Rattle.arena_heap.specs.declared.value.StrNo.TheVariants as strs
use Rattle.arena_heap.specs.declared.value.ConstNo.{ConstNo}
use Rattle.arena_heap.specs.Values.{ArenaObject}
use Rattle.bc_library.specs.Constants.{items_at, text_at, numbered}
use Rattle.bc_library.specs.Shelf.{Shelf, Named, names, member_by}
use Rattle.bc_library.proofs.bc_verify_lemmas.qstr_pool_lemmas.Places.{found}
use Rattle.bc_machine.specs.py_values.Shown.{PlainHeap}
use Rattle.bc_machine.specs.Library.{Name, Code, Library, code_at, code_in, module_in}
use Rattle.vm_starting.specs.frame_calls.arena_objects.Iterables.{or_nothing}
use Rattle.vm_starting.specs.vm_states.prim_modules.declared.entry.Entry.{Entry as Registered}
use Rattle.vm_starting.specs.vm_states.prim_modules.Registry.{plain_entry, plain_modules}
use Rattle.vm_starting.specs.vm_states.Means.{Program}
use Rattle.vm_starting.specs.Programs.{FindsAll, IsProgramOf}
use Rattle.vm_starting.specs.declared.opening.Vm.{Vm}
use Rattle.vm_machine.specs.prim_walks.Plain.{vals_from, fixed_of, plain_by, fixed_within, plain, plain_pair, plain_name, plain_object, plain_heap}
use Rattle.snap_saving.specs.Shown.{place_in, name_of, fixed_part, module_part, value_part, pair_part, object_part, registered_part, snapshot_of}
use Rattle.snap_laws.specs.Renamed.{Renaming, IsRenamed, value, items_as, pair, object_as}
use Rattle.snap_laws.specs.Worlds.{module_as}
use Rattle.snap_kept.specs.Texts.{IsConstant, AreConstant}
use Rattle.snap_kept.specs.Values.{IsThere, title_of, NamesOf, IsPlain, IsPair, IsFine, AreFine}
use Rattle.snap_grammar.specs.declared.parts.ValuePart.{ValuePart}
use Rattle.snap_grammar.specs.declared.parts.ValuePart.TheVariants as parts
use Rattle.snap_grammar.specs.declared.parts.PairPart.{PairPart}
use Rattle.snap_grammar.specs.declared.parts.ObjectPart.{ObjectPart}
use Rattle.snap_grammar.specs.declared.parts.ObjectPart.TheVariants as objects
use Rattle.snap_grammar.specs.declared.parts.Snapshot.{Snapshot}
use Rattle.snap_states.specs.Decoded.{builtin_called, kind_called}
use Rattle.snap_loading.specs.Same.{BeginsFirst, AreSameWorlds}
use Rattle.snap_loading.proofs.Bridging.{get_map}
use Rattle.snap_loading.proofs.Finding.{builtin_found, kind_found}
use Rattle.snap_loading.proofs.Matching.{has, count, before, object_cell, blank_cell, object_has, object_before, object_back, blank_has, before_is, before_count, part_at, parts_count, matched, matched_object, matched_blank, matching}
use Rattle.snap_loading.proofs.Saving.{plain_at}
use Rattle.snap_loading.specs.Given.{HasNames}

some_is : {A : Type 0} (x y : A) → Some x ≡ Some y → x ≡ y
some_is x y e = cc

-- an object of a kind is there
pub there_of : (heap : PlainHeap) (kind : ObjectKind) (n : ℕ) → IsA heap.objects kind n → IsThere heap n
there_of heap kind n is = by (object heap.objects n) refl is
  where
    by : (o : Option (Object Val (List ℕ))) → object heap.objects n ≡ o → kind_of o ≡ Some kind → IsThere heap n
    by None e f = absurd cc
    by (Some o) e f = (o, e)

-- constants
-- =========

module _ (r : Renaming) (library : Library) where
  mutual
    constant_stays : (v : Val) → IsConstant library v → value r v ≡ v
    constant_stays Nil h = refl
    constant_stays (Truth b) h = refl
    constant_stays (Int z) h = refl
    constant_stays (Str bytes) h = refl
    constant_stays (Fixed items) h = ap (λ z. Fixed z) (items_stay items h.1)
    constant_stays Empty h = refl
    constant_stays (Built b) h = refl
    constant_stays (At n) h = absurd h

    items_stay : (vs : Vals) → AreConstant library vs → items_as r vs ≡ vs
    items_stay (Only v) h = ap (λ z. Only z) (constant_stays v h)
    items_stay (Then v vs) h = ap₂ (λ a b. Then a b) (constant_stays v h.0) (items_stay vs h.1)

  fixed_stays : (heap : PlainHeap) (vs : List Val) → IsPlain library heap (fixed_of vs) → value r (fixed_of vs) ≡ fixed_of vs
  fixed_stays heap [] h = refl
  fixed_stays heap (v ∷ vs) h = ap (λ z. Fixed z) (items_stay (vals_from v vs) h.1)

-- what a value leads to is there, and what an object holds
module _ (library : Library) (heap : PlainHeap) where
  abbrev pub Given : Val → Type 0
  Given Nil = Unit {0}
  Given (Truth b) = Unit {0}
  Given (Int z) = Unit {0}
  Given (Str bytes) = Unit {0}
  Given (Fixed items) = IsPlain library heap (Fixed items)
  Given Empty = Unit {0}
  Given (Built b) = Unit {0}
  Given (At n) = IsThere heap n

  pub given : (v : Val) → IsPlain library heap v → Given v
  given Nil h = tt
  given (Truth b) h = tt
  given (Int z) h = tt
  given (Str bytes) h = tt
  given (Fixed items) h = h
  given Empty h = tt
  given (Built b) h = tt
  given (At n) h = h.0

  abbrev Fine : ℕ → Option (Object Val (List ℕ)) → Type 0
  Fine n (Some o) = IsFine library heap n o
  Fine n None = Unit {0}

-- the parts of one heap
-- =====================

-- a module's name, and a code's
abbrev pub title_in : Shelf → ℕ → Name
title_in shelf m = unwrap_or (slice_get (names shelf) m) []

abbrev pub name_in : Option Code → Name
name_in (Some code) = code.name
name_in None = []

module _ (shelf : Shelf) (library : Library) (texts : StrNo → Option (List ℕ)) (tuples : ConstNo → Option (List Value)) where
  -- a value and an object by their parts, where the objects of places have these numbers
  abbrev pub value_in : (at : ℕ → ℕ) → ValuePart → Val
  value_in at parts.None = Nil
  value_in at parts.False = Truth false
  value_in at parts.True = Truth true
  value_in at (parts.Int z) = Int z
  value_in at (parts.Object i) = At (at i)
  value_in at (parts.Str text) = Str text
  value_in at (parts.Fixed m n) = plain texts tuples (values.Fixed (numbered m n))
  value_in at parts.Empty = Empty
  value_in at (parts.Named name) = Built (unwrap_or (builtin_called name) builtins.Print)

  abbrev pub pair_in : (at : ℕ → ℕ) → PairPart → Val × Val
  pair_in at q = (value_in at q.key, value_in at q.value)

  abbrev pub object_in : (at : ℕ → ℕ) → ObjectPart → Object Val (List ℕ)
  object_in at (objects.List room items) = ListObject (map (value_in at) items) room
  object_in at (objects.Dict room pairs) = DictObject (map (pair_in at) pairs) room
  object_in at (objects.Tuple items) = TupleObject (map (value_in at) items)
  object_in at (objects.Text bytes) = TextObject bytes
  object_in at (objects.Function m code names defaults) =
      FunctionObject (name_in (code_at library (title_in shelf m) code)) (title_in shelf m) code (at names) (value_in at defaults)
  object_in at (objects.Exception kind args file line name) = ExceptionObject (unwrap_or (kind_called kind) raised.Exception) (value_in at args) file line name
  object_in at (objects.Method v method) = MethodObject (value_in at v) (unwrap_or (builtin_called method) builtins.Print)
  object_in at (objects.Range start stop step) = RangeObject start stop step
  object_in at (objects.Module name names) = ModuleObject name (Some (at names))

  module _ (same : texts ≡ text_at shelf) (same_tuples : tuples ≡ items_at shelf) (finds : FindsAll shelf library) (some_names : (i : ℕ) (n : Named) → slice_get shelf.modules i ≡ Some n → n.name ≢ []) where
    pub told : (s : StrNo) → or_nothing (texts s) ≡ unwrap_or (text_at shelf s) []
    told s = ap (λ (t : StrNo → Option (List ℕ)). or_nothing (t s)) same ∙ by (text_at shelf s)
      where
        by : (o : Option (List ℕ)) → or_nothing o ≡ unwrap_or o []
        by (Some text) = refl
        by None = refl

    -- a module that has a code is one of the library's
    held_name : (text : Name) (code : ℕ) (its : Code) → code_at library text code ≡ Some its → (k : ℕ) × (position (bytes_eq text) (names shelf) ≡ Some k)
    held_name text code its e = by (position (bytes_eq text) (names shelf)) refl
      where
        refused : (b : Bool) → position (bytes_eq text) (names shelf) ≡ None → list_any (bytes_eq text) shelf.refused ≡ b → ⊥
        refused true f g =
            let at = finds.refused text (ap₂ (λ a b. member_by a b) f g) in
            let no : None ≡ Some its = sym (ap (λ z. code_in (module_in z) code) at) ∙ e in
            cc
        refused false f g =
            let at = finds.others text (ap₂ (λ a b. member_by a b) f g) in
            let no : None ≡ Some its = sym (ap (λ z. code_in (module_in z) code) at) ∙ e in
            cc

        by : (o : Option ℕ) → position (bytes_eq text) (names shelf) ≡ o → (k : ℕ) × (position (bytes_eq text) (names shelf) ≡ Some k)
        by (Some k) f = (k, f)
        by None f = absurd (refused (list_any (bytes_eq text) shelf.refused) f refl)

    -- the number of a module's name leads to that name
    title_back : (n code : ℕ) (its : Code) → code_at library (plain_name texts tuples n) code ≡ Some its → title_in shelf (module_part shelf n) ≡ plain_name texts tuples n
    title_back n code its e = by (text_at shelf (strs.Pool n)) refl
      where
        by : (o : Option (List ℕ)) → text_at shelf (strs.Pool n) ≡ o → title_in shelf (module_part shelf n) ≡ plain_name texts tuples n
        by (Some text) f =
            let is : plain_name texts tuples n ≡ text = told (strs.Pool n) ∙ ap (λ z. unwrap_or z []) f in
            let h = held_name text code its (ap (λ z. code_at library z code) (sym is) ∙ e) in
            let part : module_part shelf n ≡ h.0 =
            ap (λ z. unwrap_or (option_and_then (λ text. position (bytes_eq text) (names shelf)) z) 0) f ∙ ap (λ z. unwrap_or z 0) h.1 in
            ap (title_in shelf) part ∙ (ap (λ z. unwrap_or z []) (found (names shelf) text h.0 h.1) ∙ sym is)
        by None f =
            let is : plain_name texts tuples n ≡ [] = told (strs.Pool n) ∙ ap (λ z. unwrap_or z []) f in
            let h = held_name [] code its (ap (λ z. code_at library z code) (sym is) ∙ e) in
            let m = get_map (λ (z : Named). z.name) shelf.modules h.0 [] (found (names shelf) [] h.0 h.1) in
            absurd (some_names h.0 m.0 m.1 m.2)

    module _ (heap : PlainHeap) (r : Renaming) (place at : ℕ → ℕ) (at_is : (n : ℕ) → IsThere heap n → at (place n) ≡ r.to n) where
      given_fixed : (vs : List Val) → Given library heap (fixed_of vs) → IsPlain library heap (fixed_of vs)
      given_fixed [] h = tt
      given_fixed (v ∷ vs) h = h

      fixed_same : (c : ConstNo) → Given library heap (plain texts tuples (values.Fixed c)) → plain texts tuples (values.Fixed c) ≡ value r (plain texts tuples (values.Fixed c))
      unfolding fixed_within
      fixed_same c h =
          let items = map (plain_by texts (fixed_within texts tuples 31)) (or_nothing (tuples c)) in sym (fixed_stays r library heap items (given_fixed items h))

      -- a constant tuple's part has its plain value
      by_items : (c : ConstNo) (o : Option (List Value)) → tuples c ≡ o → value_in at (fixed_part c o) ≡ plain texts tuples (values.Fixed c)
      unfolding fixed_within
      by_items c (Some (v ∷ vs)) e = refl
      by_items c (Some []) e = sym (ap (λ o. fixed_of (map (plain_by texts (fixed_within texts tuples 31)) (or_nothing o))) e)
      by_items c None e = sym (ap (λ o. fixed_of (map (plain_by texts (fixed_within texts tuples 31)) (or_nothing o))) e)

      pub value_by : (v : Value) → Given library heap (plain texts tuples v) → value_in at (value_part shelf place v) ≡ value r (plain texts tuples v)
      value_by values.None h = refl
      value_by (values.Bool true) h = refl
      value_by (values.Bool false) h = refl
      value_by (values.Int z) h = refl
      value_by (values.Str s) h = ap (λ z. Str z) (sym (told s))
      value_by (values.Fixed c) h = by_items c (items_at shelf c) (ap (λ (t : ConstNo → Option (List Value)). t c) same_tuples) ∙ fixed_same c h
      value_by values.Empty h = refl
      value_by (values.Built b) h = ap (λ z. Built (unwrap_or z builtins.Print)) (builtin_found b)
      value_by (values.List l) h = ap (λ z. At z) (at_is l.cell h)
      value_by (values.Dict d) h = ap (λ z. At z) (at_is d.cell h)
      value_by (values.Tuple t) h = ap (λ z. At z) (at_is t.cell h)
      value_by (values.Text t) h = ap (λ z. At z) (at_is t.cell h)
      value_by (values.Fun f) h = ap (λ z. At z) (at_is f.cell h)
      value_by (values.Exc e) h = ap (λ z. At z) (at_is e.cell h)
      value_by (values.Method m) h = ap (λ z. At z) (at_is m.cell h)
      value_by (values.Range q) h = ap (λ z. At z) (at_is q.cell h)
      value_by (values.Module m) h = ap (λ z. At z) (at_is m.cell h)

      plain_value_by : (v : Value) → IsPlain library heap (plain texts tuples v) → value_in at (value_part shelf place v) ≡ value r (plain texts tuples v)
      plain_value_by v h = value_by v (given library heap (plain texts tuples v) h)

      values_by : (vs : List Value) → Each (IsPlain library heap) (map (plain texts tuples) vs) → map (value_in at) (map (value_part shelf place) vs) ≡ map (value r) (map (plain texts tuples) vs)
      values_by [] h = refl
      values_by (v ∷ vs) h = ap₂ (λ a b. a ∷ b) (plain_value_by v h.0) (values_by vs h.1)

      pair_by : (q : Value × Value) → IsPair library heap (plain_pair texts tuples q) → pair_in at (pair_part shelf place q) ≡ pair r (plain_pair texts tuples q)
      pair_by q h = ap₂ (λ a b. (a, b)) (plain_value_by (q.0) h.0) (plain_value_by (q.1) h.2)

      pairs_by : (qs : List (Value × Value)) → Each (IsPair library heap) (map (plain_pair texts tuples) qs) → map (pair_in at) (map (pair_part shelf place) qs) ≡ map (pair r) (map (plain_pair texts tuples) qs)
      pairs_by [] h = refl
      pairs_by (q ∷ qs) h = ap₂ (λ a b. a ∷ b) (pair_by q h.0) (pairs_by qs h.1)

      -- the object of a part
      abbrev Numbered : ArenaObject → Type 0
      Numbered o = Some (object_in at (object_part shelf place o)) ≡ option_map (object_as r) (plain_object texts tuples (Some o))

      pub object_by : (spaces : (m names : ℕ) → NamesOf heap m names → IsThere heap names) → (n : ℕ) (o : ArenaObject) → Fine library heap n (plain_object texts tuples (Some o)) → Numbered o
      object_by spaces n (ListObject items room) h = ap (λ z. Some (ListObject z room)) (values_by items h)
      object_by spaces n (TupleObject items) h = ap (λ z. Some (TupleObject z)) (values_by items h)
      object_by spaces n (TextObject bytes) h = refl
      object_by spaces n (DictObject pairs room) h = ap (λ z. Some (DictObject z room)) (pairs_by pairs h.plain)
      object_by spaces n (FunctionObject name module_name code names defaults) h =
          let title = title_back module_name code h.its h.there in
          let own : name_in (code_at library (title_in shelf (module_part shelf module_name)) code) ≡ plain_name texts tuples name =
          ap (λ z. name_in (code_at library z code)) title ∙ (ap name_in h.there ∙ sym h.named) in
          ap (λ z. Some (FunctionObject z (title_in shelf (module_part shelf module_name)) code (at (place names)) (value_in at (value_part shelf place defaults)))) own
          ∙ (ap (λ z. Some (FunctionObject (plain_name texts tuples name) z code (at (place names)) (value_in at (value_part shelf place defaults)))) title
          ∙ ap₂ (λ a b. Some (FunctionObject (plain_name texts tuples name) (plain_name texts tuples module_name) code a b)) (at_is names (spaces h.namespace.0 names h.namespace.1)) (plain_value_by defaults h.plain))
      object_by spaces n (ExceptionObject kind args file line name) h =
          ap₂ (λ a b. Some (ExceptionObject (unwrap_or a raised.Exception) b (name_of shelf file) line (name_of shelf name))) (kind_found kind) (plain_value_by args h.plain)
          ∙ ap₂ (λ a b. Some (ExceptionObject kind (value r (plain texts tuples args)) a line b)) (sym (told (strs.Pool file))) (sym (told (strs.Pool name)))
      object_by spaces n (MethodObject v method) h =
          ap₂ (λ a b. Some (MethodObject a (unwrap_or b builtins.Print))) (plain_value_by v h.0) (builtin_found method)
      object_by spaces n (RangeObject start stop step) h = refl
      object_by spaces n (ModuleObject name None) h = absurd (let no = h.is in cc)
      object_by spaces n (ModuleObject name (Some names)) h =
          let dict : names ≡ h.dict = some_is names h.dict h.is in
          let named : IsThere heap names = subst (IsThere heap) (sym dict) (there_of heap ADict h.dict h.is_dict) in
          ap₂ (λ a b. Some (ModuleObject a (Some b))) (sym (told (strs.Pool name))) (at_is names named)

-- each object with its own number
-- ===============================

abbrev own : Renaming
own = record { to = λ n. n; from = λ n. n; limit = 0; back = λ n. refl; forth = λ n. refl; zero = refl; fixed = λ n le. refl }

mutual
  own_value : (v : Val) → value own v ≡ v
  own_value Nil = refl
  own_value (Truth b) = refl
  own_value (Int z) = refl
  own_value (Str bytes) = refl
  own_value (Fixed items) = ap (λ z. Fixed z) (own_items items)
  own_value Empty = refl
  own_value (Built b) = refl
  own_value (At n) = refl

  own_items : (vs : Vals) → items_as own vs ≡ vs
  own_items (Only v) = ap (λ z. Only z) (own_value v)
  own_items (Then v vs) = ap₂ (λ a b. Then a b) (own_value v) (own_items vs)

own_values : (vs : List Val) → map (value own) vs ≡ vs
own_values [] = refl
own_values (v ∷ vs) = ap₂ (λ a b. a ∷ b) (own_value v) (own_values vs)

own_pairs : (qs : List (Val × Val)) → map (pair own) qs ≡ qs
own_pairs [] = refl
own_pairs (q ∷ qs) = ap₂ (λ a b. a ∷ b) (ap₂ (λ a b. (a, b)) (own_value (q.0)) (own_value (q.1))) (own_pairs qs)

own_names : (names : Option ℕ) → option_map own.to names ≡ names
own_names None = refl
own_names (Some names) = refl

own_object : (o : Option (Object Val (List ℕ))) → option_map (object_as own) o ≡ o
own_object None = refl
own_object (Some (ListObject items room)) = ap (λ z. Some (ListObject z room)) (own_values items)
own_object (Some (TupleObject items)) = ap (λ z. Some (TupleObject z)) (own_values items)
own_object (Some (TextObject bytes)) = refl
own_object (Some (DictObject pairs room)) = ap (λ z. Some (DictObject z room)) (own_pairs pairs)
own_object (Some (FunctionObject name module_name code names defaults)) = ap (λ z. Some (FunctionObject name module_name code names z)) (own_value defaults)
own_object (Some (ExceptionObject kind args file line name)) = ap (λ z. Some (ExceptionObject kind z file line name)) (own_value args)
own_object (Some (MethodObject v method)) = ap (λ z. Some (MethodObject z method)) (own_value v)
own_object (Some (RangeObject start stop step)) = refl
own_object (Some (ModuleObject name names)) = ap (λ z. Some (ModuleObject name z)) (own_names names)

-- two heaps
-- =========

pub has_one : {V N : Type 0} (xs : List (Option (Object V N))) (n : ℕ) → has xs n ≡ true → (o : Object V N) × (object xs n ≡ Some o)
has_one {V = V} {N = N} xs n e = by (object xs n) refl e
  where
    by : (o : Option (Object V N)) → object xs n ≡ o → is_some o ≡ true → (o : Object V N) × (object xs n ≡ Some o)
    by None f g = absurd cc
    by (Some o) f g = (o, f)

pub has_none : {V N : Type 0} (xs : List (Option (Object V N))) (n : ℕ) → has xs n ≡ false → object xs n ≡ None
has_none {V = V} {N = N} xs n e = by (object xs n) refl e
  where
    by : (o : Option (Object V N)) → object xs n ≡ o → is_some o ≡ false → object xs n ≡ None
    by None f g = f
    by (Some o) f g = absurd cc

pub parts_as_many : (shelf : Shelf) (h k : Heap Value ℕ) → filter_map (option_map (object_part shelf (place_in h))) h.objects ≡ filter_map (option_map (object_part shelf (place_in k))) k.objects
    → count h.objects ≡ count k.objects
parts_as_many shelf h k parts =
    sym (parts_count (object_part shelf (place_in h)) h.objects) ∙ (ap (λ z. length z) parts ∙ parts_count (object_part shelf (place_in k)) k.objects)

module _ (shelf : Shelf) (library : Library) (texts : StrNo → Option (List ℕ)) (tuples : ConstNo → Option (List Value)) (same : texts ≡ text_at shelf) (same_tuples : tuples ≡ items_at shelf) (finds : FindsAll shelf library)
    (some_names : (i : ℕ) (n : Named) → slice_get shelf.modules i ≡ Some n → n.name ≢ []) where
  pub plain_there : (heap : Heap Value ℕ) (n : ℕ) → IsThere (plain_heap texts tuples heap) n → has heap.objects n ≡ true
  plain_there heap n h = by (object heap.objects n) refl (sym (plain_at texts tuples heap.objects n) ∙ h.1)
    where
      by : (o : Option ArenaObject) → object heap.objects n ≡ o → plain_object texts tuples o ≡ Some h.0 → has heap.objects n ≡ true
      by None f g = absurd cc
      by (Some o) f g = ap is_some f

  -- the dict of a module's names is there
  pub spaces : (heap : Heap Value ℕ) → AreFine library (plain_heap texts tuples heap) → (m names : ℕ) → NamesOf (plain_heap texts tuples heap) m names → IsThere (plain_heap texts tuples heap) names
  spaces heap fine m names e = by (object (plain_heap texts tuples heap).objects m) refl e
    where
      by : (o : Option (Object Val (List ℕ))) → object (plain_heap texts tuples heap).objects m ≡ o → names_of o ≡ Some names → IsThere (plain_heap texts tuples heap) names
      by (Some (ModuleObject name ns)) f g =
          let h = fine.fine m (ModuleObject name ns) f in
          let dict : names ≡ h.dict = some_is names h.dict (sym g ∙ h.is) in
          subst (IsThere (plain_heap texts tuples heap)) (sym dict) (there_of (plain_heap texts tuples heap) ADict h.dict h.is_dict)
      by (Some (ListObject items room)) f g = absurd cc
      by (Some (TupleObject items)) f g = absurd cc
      by (Some (TextObject bytes)) f g = absurd cc
      by (Some (DictObject pairs room)) f g = absurd cc
      by (Some (FunctionObject title module_name code ns defaults)) f g = absurd cc
      by (Some (ExceptionObject kind args file line title)) f g = absurd cc
      by (Some (MethodObject v method)) f g = absurd cc
      by (Some (RangeObject start stop step)) f g = absurd cc
      by None f g = absurd cc

  -- what an object holds
  pub fine_at : (heap : Heap Value ℕ) → AreFine library (plain_heap texts tuples heap) → (n : ℕ) (o : ArenaObject) → object heap.objects n ≡ Some o
      → Fine library (plain_heap texts tuples heap) n (plain_object texts tuples (Some o))
  fine_at heap fine n o e = by (plain_object texts tuples (Some o)) (plain_at texts tuples heap.objects n ∙ ap (plain_object texts tuples) e)
    where
      by : (q : Option (Object Val (List ℕ))) → object (plain_heap texts tuples heap).objects n ≡ q
          → Fine library (plain_heap texts tuples heap) n q
      by None f = tt
      by (Some q) f = fine.fine n q f

  module _ (h k : Heap Value ℕ) (fine : AreFine library (plain_heap texts tuples h)) (other : AreFine library (plain_heap texts tuples k))
      (parts : filter_map (option_map (object_part shelf (place_in h))) h.objects ≡ filter_map (option_map (object_part shelf (place_in k))) k.objects) where
    as_many : count h.objects ≡ count k.objects
    as_many = parts_as_many shelf h k parts

    module _ (r : Renaming) (to_is : (n : ℕ) → r.to n ≡ matched h.objects k.objects n) where
      -- the object of a place has in the second heap the other number
      pub at_other : (n : ℕ) → IsThere (plain_heap texts tuples h) n → object_cell k.objects (place_in h n) ≡ r.to n
      at_other n there =
          ap (λ z. object_cell k.objects z) (before_is h.objects n) ∙ (sym (matched_object h.objects k.objects n (plain_there h n there)) ∙ sym (to_is n))

      at_own : (n : ℕ) → IsThere (plain_heap texts tuples k) n → object_cell k.objects (place_in k n) ≡ n
      at_own n there = ap (λ z. object_cell k.objects z) (before_is k.objects n) ∙ object_back k.objects n (plain_there k n there)

      -- the same part
      same_object : (n m : ℕ) (a b : ArenaObject) → object h.objects n ≡ Some a → object k.objects m ≡ Some b → before h.objects n ≡ before k.objects m
          → plain_object texts tuples (Some b) ≡ option_map (object_as r) (plain_object texts tuples (Some a))
      same_object n m a b e f at_same =
          let at = object_cell k.objects in
          let first = part_at (object_part shelf (place_in h)) h.objects n a e in
          let second = part_at (object_part shelf (place_in k)) k.objects m b f in
          let part : object_part shelf (place_in h) a ≡ object_part shelf (place_in k) b =
          some_is _ _ (sym first ∙ (ap₂ (λ z i. slice_get z i) parts at_same ∙ second)) in
          let first_is = object_by shelf library texts tuples same same_tuples finds some_names (plain_heap texts tuples h) r (place_in h) at at_other (spaces h fine) n a (fine_at h fine n a e) in
          let second_is = object_by shelf library texts tuples same same_tuples finds some_names (plain_heap texts tuples k) own (place_in k) at at_own (spaces k other) m b (fine_at k other m b f) in
          sym (own_object (plain_object texts tuples (Some b)))
          ∙ (sym second_is ∙ (ap (λ z. Some (object_in shelf library texts tuples at z)) (sym part) ∙ first_is))

      objects_same : (n : ℕ) → object (plain_heap texts tuples k).objects (r.to n) ≡ option_map (object_as r) (object (plain_heap texts tuples h).objects n)
      objects_same n = plain_at texts tuples k.objects (r.to n) ∙ (by (has h.objects n) refl ∙ ap (option_map (object_as r)) (sym (plain_at texts tuples h.objects n)))
        where
          by : (b : Bool) → has h.objects n ≡ b → plain_object texts tuples (object k.objects (r.to n)) ≡ option_map (object_as r) (plain_object texts tuples (object h.objects n))
          by true e =
              let i = before h.objects n in
              let low = before_count h.objects n e in
              let m = as_many in
              let lt : i < count k.objects = omega (arith, low, m) in
              let cell : r.to n ≡ object_cell k.objects i = to_is n ∙ matched_object h.objects k.objects n e in
              let a = has_one h.objects n e in
              let b = has_one k.objects (object_cell k.objects i) (object_has k.objects i lt) in
              ap (plain_object texts tuples) (ap (object k.objects) cell ∙ b.1)
              ∙ (same_object n (object_cell k.objects i) a.0 b.0 a.1 b.1 (sym (object_before k.objects i lt))
              ∙ ap (λ z. option_map (object_as r) (plain_object texts tuples z)) (sym a.1))
          by false e =
              let cell = to_is n ∙ matched_blank h.objects k.objects n e in
              ap (plain_object texts tuples) (ap (object k.objects) cell ∙ has_none k.objects (blank_cell k.objects (n - before h.objects n)) (blank_has k.objects (n - before h.objects n)))
              ∙ ap (λ z. option_map (object_as r) (plain_object texts tuples z)) (sym (has_none h.objects n e))

      -- the heaps differ by the numbers of their objects alone
      pub same_heaps : length k.objects ≡ length h.objects → k.bytes ≡ h.bytes → k.cell_size ≡ h.cell_size → k.byte_size ≡ h.byte_size → r.limit ≤ length h.objects
          → IsRenamed r (plain_heap texts tuples h) (plain_heap texts tuples k)
      same_heaps cells bytes cell_size byte_size above = record {
        objects = objects_same;
        cells = length-map k.objects (plain_object texts tuples) ∙ (cells ∙ sym (length-map h.objects (plain_object texts tuples)));
        bytes = bytes;
        cell_size = cell_size;
        byte_size = byte_size;
        above = subst (λ z. r.limit ≤ z) (sym (length-map h.objects (plain_object texts tuples))) above;
      }

      -- registered modules
      -- ==================

      title_kept : (o : Option (Object Val (List ℕ))) → title_of (option_map (object_as r) o) ≡ title_of o
      title_kept None = refl
      title_kept (Some (ListObject items room)) = refl
      title_kept (Some (TupleObject items)) = refl
      title_kept (Some (TextObject bytes)) = refl
      title_kept (Some (DictObject pairs room)) = refl
      title_kept (Some (FunctionObject name module_name code names defaults)) = refl
      title_kept (Some (ExceptionObject kind args file line name)) = refl
      title_kept (Some (MethodObject v method)) = refl
      title_kept (Some (RangeObject start stop step)) = refl
      title_kept (Some (ModuleObject name names)) = refl

      abbrev IsModuleIn : PlainHeap → List ℕ × ℕ → Type 0
      IsModuleIn heap m = IsA heap.objects AModule m.1

      abbrev IsTitledIn : PlainHeap → List ℕ × ℕ → Type 0
      IsTitledIn heap m = title_of (object heap.objects m.1) ≡ Some m.0

      entry_same : (e f : Registered) → registered_part (place_in h) e ≡ registered_part (place_in k) f
          → IsModuleIn (plain_heap texts tuples h) (plain_entry texts tuples e) → IsTitledIn (plain_heap texts tuples h) (plain_entry texts tuples e)
          → IsModuleIn (plain_heap texts tuples k) (plain_entry texts tuples f) → IsTitledIn (plain_heap texts tuples k) (plain_entry texts tuples f)
          → plain_entry texts tuples f ≡ module_as r (plain_entry texts tuples e)
      entry_same e f at_same a s b t =
          let n = e.object.cell in
          let first = at_other n (there_of (plain_heap texts tuples h) AModule n a) in
          let second = at_own f.object.cell (there_of (plain_heap texts tuples k) AModule f.object.cell b) in
          let cell : f.object.cell ≡ r.to n = sym second ∙ (ap (object_cell k.objects) (sym at_same) ∙ first) in
          let title : Some (plain_name texts tuples f.name) ≡ Some (plain_name texts tuples e.name) =
          sym t ∙ (ap (λ z. title_of (object (plain_heap texts tuples k).objects z)) cell ∙ (ap title_of (objects_same n) ∙ (title_kept (object (plain_heap texts tuples h).objects n) ∙ s))) in
          ap₂ (λ a b. (a, b)) (some_is _ _ title) cell

      pub modules_same : (es fs : List Registered) → map (registered_part (place_in h)) es ≡ map (registered_part (place_in k)) fs
          → Each (IsModuleIn (plain_heap texts tuples h)) (map (plain_entry texts tuples) es) → Each (IsTitledIn (plain_heap texts tuples h)) (map (plain_entry texts tuples) es)
          → Each (IsModuleIn (plain_heap texts tuples k)) (map (plain_entry texts tuples) fs) → Each (IsTitledIn (plain_heap texts tuples k)) (map (plain_entry texts tuples) fs)
          → map (plain_entry texts tuples) fs ≡ map (module_as r) (map (plain_entry texts tuples) es)
      modules_same [] [] e a s b t = refl
      modules_same [] (f ∷ fs) e a s b t = absurd cc
      modules_same (x ∷ es) [] e a s b t = absurd cc
      modules_same (x ∷ es) (f ∷ fs) e a s b t =
          let heads = ap (λ (z : List ℕ). slice_get z 0) e in
          let tails = ap (λ (z : List ℕ). drop 1 z) e in
          ap₂ (λ a b. a ∷ b) (entry_same x f (some_is _ _ heads) a.0 s.0 b.0 t.0) (modules_same es fs tails a.1 s.1 b.1 t.1)

-- two machines
-- ============

-- what a program says of a machine
pub record Says (p : Program) (vm : Vm) : Type 0 where
  pub fine : AreFine p.library (plain_heap p.tables.texts p.tables.tuples vm.arena)
  pub modules : Each (λ (m : List ℕ × ℕ). IsA (plain_heap p.tables.texts p.tables.tuples vm.arena).objects AModule m.1) (plain_modules p.tables.texts p.tables.tuples vm.modules)
  pub titles : Each (λ (m : List ℕ × ℕ). title_of (object (plain_heap p.tables.texts p.tables.tuples vm.arena).objects m.1) ≡ Some m.0) (plain_modules p.tables.texts p.tables.tuples vm.modules)

abbrev pub Told : Shelf → Vm → Vm → Program → Type 0
Told shelf vm other p = (p.tables.texts ≡ text_at shelf) × (p.tables.tuples ≡ items_at shelf) × FindsAll shelf p.library × Says p vm × Says p other

pub worlds_same : (shelf : Shelf) (vm other : Vm) → HasNames shelf → BeginsFirst vm → BeginsFirst other
    → snapshot_of shelf vm.arena vm.modules vm.frames.calls vm.paid ≡ snapshot_of shelf other.arena other.modules other.frames.calls other.paid
    → ((p : Program) → IsProgramOf shelf p → Told shelf vm other p) → AreSameWorlds shelf vm other
worlds_same shelf vm other named first second e says =
    let h = vm.arena in
    let k = other.arena in
    let parts = ap (λ (z : Snapshot). z.objects) e in
    let cells : length h.objects ≡ length k.objects = ap (λ (z : Snapshot). z.used_cells) e in
    let r = matching h.objects k.objects (parts_as_many shelf h k parts) cells first.first second.first in
    record {
      renaming = r;
      worlds = λ p program w.
          let t = says p program in
          let a = t.3 in
          let b = t.4 in
          record {
            heap = same_heaps shelf p.library p.tables.texts p.tables.tuples t.0 t.1 t.2 named.some h k a.fine b.fine parts r (λ n. refl)
                (sym cells) (sym (ap (λ (z : Snapshot). z.used_bytes) e)) (sym (ap (λ (z : Snapshot). z.cells) e)) (sym (ap (λ (z : Snapshot). z.bytes) e)) (omega arith);
            modules = modules_same shelf p.library p.tables.texts p.tables.tuples t.0 t.1 t.2 named.some h k a.fine b.fine parts r (λ n. refl)
                vm.modules.entries other.modules.entries (ap (λ (z : Snapshot). z.modules) e) a.modules a.titles b.modules b.titles;
            ports = refl;
            output = refl;
          };
    }
