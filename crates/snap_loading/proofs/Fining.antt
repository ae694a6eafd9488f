-- The values and the objects of a snapshot that was saved are such as a snapshot of a state has.
use Rattle.std.proofs.Common.{◌≡◌, ◌≢◌, ℕ, zero, suc, ◌<◌, Bool, true, false, List, [], ◌∷◌, length, map, Option, Some, None, slice_get, refl, sym, ap, ◌∙◌, subst, arith, All}
use Rattle.std.specs.Prelude.{unwrap_or, option_and_then, is_some, IsSome}
use Rattle.std.specs.List.{AllByRecursion as Each}
use Rattle.std.specs.Option.{option_map}
use Rattle.std.proofs.lemmas.Bool.{true≢false, false≢true}
use Rattle.std.proofs.lemmas.Bool.Decides.{Decides-int_eq}
use Rattle.std.proofs.lemmas.List.{length-map}
use Rattle.std.proofs.lemmas.List.Elements.{All-from_recursion}
use Rattle.std.proofs.lemmas.Option.{slice_get_within}
use Rattle.std.proofs.lemmas.Slice.Eq.{bytes_eq-Decides}
use Rattle.mpy_base.specs.declared.builtin.Builtin.{Builtin}
use Rattle.mpy_base.specs.declared.builtin.Builtin.TheVariants as builtins
use Rattle.mpy_base.specs.Val.{Val, Nil, Truth, Int, Str, Fixed, Empty, Built, At, vals}
use Rattle.mpy_base.specs.World.{Heap, Object, ListObject, TupleObject, TextObject, DictObject, FunctionObject, ExceptionObject, MethodObject, RangeObject, ModuleObject, ObjectKind, AList, ATuple, AText, ADict, AFunction, AnException, AMethod, ARange, AModule, IsA, object, kind_of, names_of}
use Rattle.arena_heap.specs.declared.value.Value.{Value}
use Rattle.arena_heap.specs.declared.value.Value.TheVariants as values
use Rattle.arena_heap.specs.declared.value.StrNo.{StrNo}
use Rattle.arena_heap.specs.declared.value.StrNo.TheVariants as strs
use Rattle.arena_heap.specs.declared.value.ConstNo.{ConstNo}
use Rattle.arena_heap.specs.Values.{ArenaObject}
use Rattle.bc_library.specs.Constants.{items_at, text_at}
use Rattle.bc_library.specs.Shelf.{Shelf, Named}
use Rattle.bc_machine.specs.py_values.Keys.{PlainKey, NoneKey, NumberKey, TextKey, shown_key, is_same_key, key_of, has_key}
use Rattle.bc_machine.specs.py_values.Shown.{PlainHeap, shown_object}
use Rattle.bc_machine.specs.Library.{Name, Module, Library}
use Rattle.vm_starting.specs.frame_calls.arena_objects.Iterables.{or_nothing}
use Rattle.vm_starting.specs.vm_states.prim_modules.Registry.{Registry}
use Rattle.vm_starting.specs.vm_states.vm_frames.Calls.{Call}
use Rattle.vm_machine.specs.prim_walks.Plain.{vals_from, fixed_of, plain_by, fixed_within, plain, plain_pair, plain_object, plain_heap}
use Rattle.snap_saving.specs.Shown.{place_in, name_of, fixed_part, value_part, pair_part, object_part}
use Rattle.snap_kept.specs.Texts.{is_method}
use Rattle.snap_kept.specs.Values as kept
use Rattle.snap_kept.specs.Values.{IsThere, Differ, IsPair, IsFine, AreFine, count_shown, count_of}
use Rattle.snap_grammar.specs.declared.parts.ValuePart.{ValuePart}
use Rattle.snap_grammar.specs.declared.parts.ValuePart.TheVariants as parts
use Rattle.snap_grammar.specs.declared.parts.PairPart.{PairPart}
use Rattle.snap_grammar.specs.declared.parts.ObjectPart.{ObjectPart}
use Rattle.snap_grammar.specs.declared.parts.ObjectPart.TheVariants as objects
use Rattle.snap_grammar.specs.declared.parts.Snapshot.{Snapshot}
use Rattle.snap_states.specs.Parts.{part_kind, method_of}
use Rattle.snap_states.specs.States.{bytes_in_part, count_in_part, IsName as IsText, IsConstant, NamesOf, IsNamespace, IsObject, kind_of_part, key_at, key_of_part, key_in_part, IsPlain, IsFinePair, tuple_count}
use Rattle.snap_loading.proofs.Matching.{has, count, object_cell, object_has, object_before, object_back, before_is, parts_count}
use Rattle.snap_loading.proofs.Saving.{plain_at, plain_is, part_there, kind_there, saved_as}
use Rattle.snap_loading.proofs.Tabled.{empty_text}

some_is : {A : Type 0} (x y : A) → Some x ≡ Some y → x ≡ y
some_is x y e = cc

-- values by themselves
-- ====================

free_of : (b : Builtin) → is_method b ≡ false → method_of b ≡ None
free_of builtins.ListAppend e = absurd (true≢false e)
free_of builtins.ListPop e = absurd (true≢false e)
free_of builtins.ListInsert e = absurd (true≢false e)
free_of builtins.ListExtend e = absurd (true≢false e)
free_of builtins.DictGet e = absurd (true≢false e)
free_of builtins.DictKeys e = absurd (true≢false e)
free_of builtins.DictValues e = absurd (true≢false e)
free_of builtins.DictItems e = absurd (true≢false e)
free_of builtins.DictPop e = absurd (true≢false e)
free_of builtins.StrJoin e = absurd (true≢false e)
free_of builtins.StrFind e = absurd (true≢false e)
free_of builtins.StrStartsWith e = absurd (true≢false e)
free_of builtins.StrSplit e = absurd (true≢false e)
free_of _ e = refl

same_key : (k : PlainKey) → is_same_key (Some k) (Some k) ≡ true
same_key NoneKey = refl
same_key (NumberKey z) = (Decides-int_eq z z).1 refl
same_key (TextKey bytes) = (bytes_eq-Decides bytes bytes).1 refl

one_key : (a b : Option PlainKey) → IsSome a → a ≡ b → is_same_key b a ≡ false → ⊥
one_key None b some e f = absurd cc
one_key (Some k) b some e f = true≢false (sym (same_key k) ∙ (ap (λ z. is_same_key z (Some k)) e ∙ f))

pub or_no_text : (o : Option (List ℕ)) → or_nothing o ≡ unwrap_or o []
or_no_text None = refl
or_no_text (Some text) = refl

-- constant tuples
no_str : (xs : List Val) (name : Name) → fixed_of xs ≡ Str name → ⊥
no_str [] name e = absurd cc
no_str (x ∷ xs) name e = absurd cc

no_nil : (xs : List Val) → fixed_of xs ≡ Nil → ⊥
no_nil [] e = absurd cc
no_nil (x ∷ xs) e = absurd cc

no_key : (heap : PlainHeap) (xs : List Val) → key_of heap (fixed_of xs) ≡ None
no_key heap [] = refl
no_key heap (x ∷ xs) = refl

as_many : (x : Val) (xs : List Val) → length (vals (vals_from x xs)) ≡ suc (length xs)
as_many x [] = refl
as_many x (y ∷ ys) = ap suc (as_many y ys)

fixed_count : (heap : PlainHeap) (xs : List Val) → count_of heap (fixed_of xs) ≡ Some (length xs)
fixed_count heap [] = refl
fixed_count heap (x ∷ xs) = ap (λ z. Some z) (as_many x xs)

module _ (shelf : Shelf) where
  constant_of : (x : StrNo) → IsConstant shelf (unwrap_or (text_at shelf x) [])
  constant_of x = by (text_at shelf x) refl
    where
      by : (o : Option (List ℕ)) → text_at shelf x ≡ o → IsConstant shelf (unwrap_or o [])
      by (Some text) e = (x, e)
      by None e = (strs.Pool 1, empty_text shelf)

  pub name_fine : (n : ℕ) → IsText shelf (name_of shelf n)
  name_fine n = by (text_at shelf (strs.Pool n)) refl
    where
      by : (o : Option (List ℕ)) → text_at shelf (strs.Pool n) ≡ o → IsText shelf (unwrap_or o [])
      by (Some text) e = (n, e)
      by None e = (1, empty_text shelf)

  -- a constant tuple's plain value
  fixed_is : (c : ConstNo) → plain (text_at shelf) (items_at shelf) (values.Fixed c)
      ≡ fixed_of (map (plain_by (text_at shelf) (fixed_within (text_at shelf) (items_at shelf) 31)) (or_nothing (items_at shelf c)))
  unfolding fixed_within
  fixed_is c = refl

-- the parts of objects
-- ====================

module _ (shelf : Shelf) (heap : Heap Value ℕ) (modules : Registry) (calls : List Call) (paid : ℕ) where
  abbrev pub snap : Snapshot
  snap = saved_as shelf heap modules calls paid

  abbrev pub place : ℕ → ℕ
  place = place_in heap

  abbrev pub plainly : Value → Val
  plainly = plain (text_at shelf) (items_at shelf)

  abbrev pub plain_one : Option ArenaObject → Option (Object Val (List ℕ))
  plain_one = plain_object (text_at shelf) (items_at shelf)

  abbrev pub world : PlainHeap
  world = plain_heap (text_at shelf) (items_at shelf) heap

  abbrev pub part : ArenaObject → ObjectPart
  part = object_part shelf place

  abbrev pub pairly : Value × Value → Val × Val
  pairly = plain_pair (text_at shelf) (items_at shelf)

  abbrev pub pair_at : Value × Value → PairPart
  pair_at = pair_part shelf place

  there_part : (n : ℕ) (o : ArenaObject) → object heap.objects n ≡ Some o → slice_get snap.objects (place n) ≡ Some (part o)
  there_part n o e = part_there shelf heap modules calls paid n o e

  pub world_at : (n : ℕ) → object world.objects n ≡ plain_one (object heap.objects n)
  world_at n = plain_at (text_at shelf) (items_at shelf) heap.objects n

  -- what is there is an object of the arena
  own_there : (n : ℕ) → IsThere world n → (o : ArenaObject) × (object heap.objects n ≡ Some o)
  own_there n h = by (object heap.objects n) refl (sym (world_at n) ∙ h.1)
    where
      by : (r : Option ArenaObject) → object heap.objects n ≡ r → plain_one r ≡ Some h.0 → (o : ArenaObject) × (object heap.objects n ≡ Some o)
      by None e f = absurd cc
      by (Some o) e f = (o, e)

  -- objects of one place are one
  place_one : (m n : ℕ) (a b : ArenaObject) → object heap.objects m ≡ Some a → object heap.objects n ≡ Some b → place m ≡ place n → m ≡ n
  place_one m n a b e f same =
      sym (object_back heap.objects m (ap is_some e))
      ∙ (ap (object_cell heap.objects) (sym (before_is heap.objects m) ∙ (same ∙ before_is heap.objects n)) ∙ object_back heap.objects n (ap is_some f))

  -- each part is that of an object
  pub record HasCell (number : ℕ) (o : ObjectPart) : Type 0 where
    pub cell : ℕ
    pub own : ArenaObject
    pub there : object heap.objects cell ≡ Some own
    pub at : place cell ≡ number
    pub is : part own ≡ o

  one_at : (n : ℕ) → has heap.objects n ≡ true → (o : ArenaObject) × (object heap.objects n ≡ Some o)
  one_at n e = by (object heap.objects n) refl e
    where
      by : (r : Option ArenaObject) → object heap.objects n ≡ r → is_some r ≡ true → (o : ArenaObject) × (object heap.objects n ≡ Some o)
      by None f g = absurd (false≢true g)
      by (Some o) f g = (o, f)

  pub cell_at : (number : ℕ) (o : ObjectPart) → slice_get snap.objects number ≡ Some o → HasCell number o
  cell_at number o e =
      let within = slice_get_within snap.objects number o e in
      let many = parts_count part heap.objects in
      let lt : number < count heap.objects = omega (arith, within, many) in
      let cell = object_cell heap.objects number in
      let own = one_at cell (object_has heap.objects number lt) in
      let at : place cell ≡ number = before_is heap.objects cell ∙ object_before heap.objects number lt in
      record {
        cell = cell;
        own = own.0;
        there = own.1;
        at = at;
        is = some_is _ _ (sym (there_part cell own.0 own.1) ∙ (ap (λ z. slice_get snap.objects z) at ∙ e));
      }

  -- how many parts there are
  place_within : (n : ℕ) (o : ArenaObject) → object heap.objects n ≡ Some o → place n < length snap.objects
  place_within n o e = slice_get_within snap.objects (place n) (part o) (there_part n o e)

  module _ (library : Library) (fine : AreFine library world) where
    abbrev pub Fine : ℕ → Option (Object Val (List ℕ)) → Type 0
    Fine n (Some o) = IsFine library world n o
    Fine n None = Unit {0}

    pub fine_at : (n : ℕ) (o : ArenaObject) → object heap.objects n ≡ Some o → Fine n (plain_one (Some o))
    fine_at n o e = by (plain_one (Some o)) (world_at n ∙ ap plain_one e)
      where
        by : (q : Option (Object Val (List ℕ))) → object world.objects n ≡ q → Fine n q
        by None f = tt
        by (Some q) f = fine.fine n q f

    -- namespaces
    -- ==========

    -- a module of the snapshot is one of the arena
    pub record Owns (m number : ℕ) : Type 0 where
      pub cell : ℕ
      pub title : ℕ
      pub dict : ℕ
      pub there : object heap.objects cell ≡ Some (ModuleObject title (Some dict))
      pub at : place cell ≡ m
      pub dict_at : place dict ≡ number

    abbrev dict_of : ObjectPart → ℕ
    dict_of (objects.Module name number) = number
    dict_of _ = 0

    pub owns_at : (m number : ℕ) → NamesOf snap m number → Owns m number
    owns_at m number h = let c = cell_at m (objects.Module h.name number) h.is in by c.cell c.own c.there c.at c.is
      where
        other : (o : ArenaObject) → part o ≡ objects.Module h.name number → part_kind (part o) ≡ AModule
        other o e = ap part_kind e

        by : (n : ℕ) (o : ArenaObject) → object heap.objects n ≡ Some o → place n ≡ m → part o ≡ objects.Module h.name number → Owns m number
        by n (ModuleObject title (Some dict)) e at is = record { cell = n; title = title; dict = dict; there = e; at = at; dict_at = ap dict_of is }
        by n (ModuleObject title None) e at is = absurd (let no = (fine_at n (ModuleObject title None) e).is in cc)
        by n (ListObject items room) e at is = absurd (let no : AList ≡ AModule = other (ListObject items room) is in cc)
        by n (TupleObject items) e at is = absurd (let no : ATuple ≡ AModule = other (TupleObject items) is in cc)
        by n (TextObject bytes) e at is = absurd (let no : AText ≡ AModule = other (TextObject bytes) is in cc)
        by n (DictObject pairs room) e at is = absurd (let no : ADict ≡ AModule = other (DictObject pairs room) is in cc)
        by n (FunctionObject name module_name code dict defaults) e at is = absurd (let no : AFunction ≡ AModule = other (FunctionObject name module_name code dict defaults) is in cc)
        by n (ExceptionObject kind args file line name) e at is = absurd (let no : AnException ≡ AModule = other (ExceptionObject kind args file line name) is in cc)
        by n (MethodObject v method) e at is = absurd (let no : AMethod ≡ AModule = other (MethodObject v method) is in cc)
        by n (RangeObject start stop step) e at is = absurd (let no : ARange ≡ AModule = other (RangeObject start stop step) is in cc)

    -- the names of such a module stand in its dict
    names_in : (m number : ℕ) (o : Owns m number) → kept.NamesOf world o.cell o.dict
    names_in m number o = ap names_of (world_at o.cell ∙ ap plain_one o.there)

    -- the dict of a module is there
    dict_there : (m dict title : ℕ) → object heap.objects m ≡ Some (ModuleObject title (Some dict)) → IsA heap.objects ADict dict
    dict_there m dict title e =
        let f = fine_at m (ModuleObject title (Some dict)) e in
        plain_is (text_at shelf) (items_at shelf) heap.objects ADict dict (subst (IsA world.objects ADict) (sym (some_is dict f.dict f.is)) f.is_dict)

    own_kind : (kind : ObjectKind) (n : ℕ) → IsA heap.objects kind n → (o : ArenaObject) × (object heap.objects n ≡ Some o)
    own_kind kind n is = by (object heap.objects n) refl is
      where
        by : (r : Option ArenaObject) → object heap.objects n ≡ r → kind_of r ≡ Some kind → (o : ArenaObject) × (object heap.objects n ≡ Some o)
        by None e f = absurd cc
        by (Some o) e f = (o, e)

    -- a module of the snapshot whose names stand in the dict of a place
    pub owner_names : (m n : ℕ) (a : ArenaObject) → object heap.objects n ≡ Some a → (h : NamesOf snap m (place n)) → kept.NamesOf world (owns_at m (place n) h).cell n
    owner_names m n a e h =
        let o = owns_at m (place n) h in
        let d = own_kind ADict o.dict (dict_there o.cell o.dict o.title o.there) in
        subst (λ z. kept.NamesOf world o.cell z) (place_one o.dict n d.0 a d.1 e o.dict_at) (names_in m (place n) o)

    module_of : (m n : ℕ) → kept.NamesOf world m n → (title : ℕ) × (object heap.objects m ≡ Some (ModuleObject title (Some n)))
    module_of m n h = by (object heap.objects m) refl (ap names_of (sym (world_at m)) ∙ h)
      where
        by : (r : Option ArenaObject) → object heap.objects m ≡ r → names_of (plain_one r) ≡ Some n → (title : ℕ) × (object heap.objects m ≡ Some (ModuleObject title (Some n)))
        by (Some (ModuleObject title dict)) e f = (title, e ∙ ap (λ z. Some (ModuleObject title z)) f)
        by None e f = absurd cc
        by (Some (ListObject items room)) e f = absurd cc
        by (Some (TupleObject items)) e f = absurd cc
        by (Some (TextObject bytes)) e f = absurd cc
        by (Some (DictObject pairs room)) e f = absurd cc
        by (Some (FunctionObject name module_name code dict defaults)) e f = absurd cc
        by (Some (ExceptionObject kind args file line name)) e f = absurd cc
        by (Some (MethodObject v method)) e f = absurd cc
        by (Some (RangeObject start stop step)) e f = absurd cc

    pub space : (n : ℕ) → kept.IsNamespace world n → IsNamespace snap (place n)
    space n h =
        let m = h.0 in
        let t = module_of m n h.1 in
        let f = fine_at m (ModuleObject t.0 (Some n)) t.1 in
        let dict : IsA heap.objects ADict n = dict_there m n t.0 t.1 in
        let own = own_kind ADict n dict in
        record {
          dict = kind_there shelf heap modules calls paid ADict n dict;
          owner = place m;
          owns = record { name = name_of shelf t.0; is = there_part m (ModuleObject t.0 (Some n)) t.1 };
          alone = λ k owns.
              let o = owns_at k (place n) owns in
              let same : o.cell ≡ m = f.alone o.cell (subst (λ z. kept.NamesOf world o.cell z) (some_is n f.dict f.is) (owner_names k n own.0 own.1 owns)) in
              sym o.at ∙ ap place same;
        }

    -- values
    -- ======

    object_fine : (n : ℕ) → IsThere world n × (kept.IsNamespace world n → ⊥) → IsObject snap (place n)
    object_fine n h =
        let own = own_there n h.0 in
        record {
          there = place_within n own.0 own.1;
          free = λ m owns. h.1 ((owns_at m (place n) owns).cell, owner_names m n own.0 own.1 owns);
        }

    fixed_fine : (c : ConstNo) (o : Option (List Value)) → items_at shelf c ≡ o → IsPlain shelf snap (fixed_part c o)
    fixed_fine c None e = tt
    fixed_fine c (Some []) e = tt
    fixed_fine c (Some (v ∷ vs)) e = record { items = v ∷ vs; are = e; some = omega arith }

    bool_fine : (b : Bool) → IsPlain shelf snap (value_part shelf place (values.Bool b))
    bool_fine true = tt
    bool_fine false = tt

    pub plain_part : (v : Value) → kept.IsPlain library world (plainly v) → IsPlain shelf snap (value_part shelf place v)
    plain_part values.None h = tt
    plain_part (values.Bool b) h = bool_fine b
    plain_part (values.Int z) h = tt
    plain_part (values.Str x) h = constant_of shelf x
    plain_part (values.Fixed c) h = fixed_fine c (items_at shelf c) refl
    plain_part values.Empty h = tt
    plain_part (values.Built b) h = record { builtin = b; named = refl; free = free_of b h }
    plain_part (values.List l) h = object_fine l.cell h
    plain_part (values.Dict d) h = object_fine d.cell h
    plain_part (values.Tuple t) h = object_fine t.cell h
    plain_part (values.Text t) h = object_fine t.cell h
    plain_part (values.Fun f) h = object_fine f.cell h
    plain_part (values.Exc e) h = object_fine e.cell h
    plain_part (values.Method m) h = object_fine m.cell h
    plain_part (values.Range r) h = object_fine r.cell h
    plain_part (values.Module m) h = object_fine m.cell h

    pub plain_parts : (vs : List Value) → Each (kept.IsPlain library world) (map plainly vs) → All (IsPlain shelf snap) (map (value_part shelf place) vs)
    plain_parts vs h = All-from_recursion (IsPlain shelf snap) (map (value_part shelf place) vs) (each vs h)
      where
        each : (vs : List Value) → Each (kept.IsPlain library world) (map plainly vs) → Each (IsPlain shelf snap) (map (value_part shelf place) vs)
        each [] h = tt
        each (v ∷ vs) h = (plain_part v h.0, each vs h.1)

    -- what an object that is there shows
    -- ==================================

    own_key : (o : ArenaObject) → option_map TextKey (bytes_in_part (part o)) ≡ shown_key (shown_object (plain_one (Some o)))
    own_key (ListObject items room) = refl
    own_key (TupleObject items) = refl
    own_key (TextObject bytes) = refl
    own_key (DictObject pairs room) = refl
    own_key (FunctionObject name module_name code dict defaults) = refl
    own_key (ExceptionObject kind args file line name) = refl
    own_key (MethodObject v method) = refl
    own_key (RangeObject start stop step) = refl
    own_key (ModuleObject name dict) = refl

    object_key : (n : ℕ) → IsThere world n → key_at snap (place n) ≡ key_of world (At n)
    object_key n h =
        let own = own_there n h in
        ap (λ z. option_map TextKey (option_and_then bytes_in_part z)) (there_part n own.0 own.1)
        ∙ (own_key own.0 ∙ sym (ap (λ z. shown_key (shown_object z)) (world_at n ∙ ap plain_one own.1)))

    fixed_key : (c : ConstNo) (o : Option (List Value)) → key_of_part snap (fixed_part c o) ≡ None
    fixed_key c None = refl
    fixed_key c (Some []) = refl
    fixed_key c (Some (v ∷ vs)) = refl

    bool_key : (b : Bool) → key_of_part snap (value_part shelf place (values.Bool b)) ≡ key_of world (Truth b)
    bool_key true = refl
    bool_key false = refl

    pub key_part : (v : Value) → kept.IsPlain library world (plainly v) → key_of_part snap (value_part shelf place v) ≡ key_of world (plainly v)
    key_part values.None h = refl
    key_part (values.Bool b) h = bool_key b
    key_part (values.Int z) h = refl
    key_part (values.Str x) h = ap (λ z. Some (TextKey z)) (sym (or_no_text (text_at shelf x)))
    key_part (values.Fixed c) h = fixed_key c (items_at shelf c) ∙ sym (ap (key_of world) (fixed_is shelf c) ∙ no_key world (map (plain_by (text_at shelf) (fixed_within (text_at shelf) (items_at shelf) 31)) (or_nothing (items_at shelf c))))
    key_part values.Empty h = refl
    key_part (values.Built b) h = refl
    key_part (values.List l) h = object_key l.cell h.0
    key_part (values.Dict d) h = object_key d.cell h.0
    key_part (values.Tuple t) h = object_key t.cell h.0
    key_part (values.Text t) h = object_key t.cell h.0
    key_part (values.Fun f) h = object_key f.cell h.0
    key_part (values.Exc e) h = object_key e.cell h.0
    key_part (values.Method m) h = object_key m.cell h.0
    key_part (values.Range r) h = object_key r.cell h.0
    key_part (values.Module m) h = object_key m.cell h.0

    own_count : (o : ArenaObject) → count_in_part (part o) ≡ count_shown (shown_object (plain_one (Some o)))
    own_count (ListObject items room) = refl
    own_count (TupleObject items) = ap (λ z. Some z) (length-map items (value_part shelf place) ∙ sym (length-map items plainly))
    own_count (TextObject bytes) = refl
    own_count (DictObject pairs room) = refl
    own_count (FunctionObject name module_name code dict defaults) = refl
    own_count (ExceptionObject kind args file line name) = refl
    own_count (MethodObject v method) = refl
    own_count (RangeObject start stop step) = refl
    own_count (ModuleObject name dict) = refl

    object_count : (n : ℕ) → IsThere world n → option_and_then count_in_part (slice_get snap.objects (place n)) ≡ count_of world (At n)
    object_count n h =
        let own = own_there n h in
        ap (option_and_then count_in_part) (there_part n own.0 own.1)
        ∙ (own_count own.0 ∙ sym (ap (λ z. count_shown (shown_object z)) (world_at n ∙ ap plain_one own.1)))

    items_counted : (c : ConstNo) (o : Option (List Value)) → items_at shelf c ≡ o → tuple_count shelf snap (fixed_part c o) ≡ Some (length (or_nothing o))
    items_counted c None e = refl
    items_counted c (Some []) e = refl
    items_counted c (Some (v ∷ vs)) e = ap (option_map length) e

    pub count_part : (v : Value) → kept.IsPlain library world (plainly v) → tuple_count shelf snap (value_part shelf place v) ≡ count_of world (plainly v)
    count_part values.None h = refl
    count_part (values.Bool true) h = refl
    count_part (values.Bool false) h = refl
    count_part (values.Int z) h = refl
    count_part (values.Str x) h = refl
    count_part (values.Fixed c) h =
        let inner = plain_by (text_at shelf) (fixed_within (text_at shelf) (items_at shelf) 31) in
        items_counted c (items_at shelf c) refl
        ∙ (ap (λ z. Some z) (sym (length-map (or_nothing (items_at shelf c)) inner)) ∙ sym (ap (count_of world) (fixed_is shelf c) ∙ fixed_count world (map inner (or_nothing (items_at shelf c)))))
    count_part values.Empty h = refl
    count_part (values.Built b) h = refl
    count_part (values.List l) h = object_count l.cell h.0
    count_part (values.Dict d) h = object_count d.cell h.0
    count_part (values.Tuple t) h = object_count t.cell h.0
    count_part (values.Text t) h = object_count t.cell h.0
    count_part (values.Fun f) h = object_count f.cell h.0
    count_part (values.Exc e) h = object_count e.cell h.0
    count_part (values.Method m) h = object_count m.cell h.0
    count_part (values.Range r) h = object_count r.cell h.0
    count_part (values.Module m) h = object_count m.cell h.0

    -- a value that is a tuple is of that kind
    counted_kind : (o : Option ObjectPart) (k : ℕ) → option_and_then count_in_part o ≡ Some k → option_map part_kind o ≡ Some ATuple
    counted_kind (Some (objects.Tuple items)) k e = refl
    counted_kind None k e = absurd cc
    counted_kind (Some (objects.List room items)) k e = absurd cc
    counted_kind (Some (objects.Dict room pairs)) k e = absurd cc
    counted_kind (Some (objects.Text bytes)) k e = absurd cc
    counted_kind (Some (objects.Function m code dict defaults)) k e = absurd cc
    counted_kind (Some (objects.Exception kind args file line name)) k e = absurd cc
    counted_kind (Some (objects.Method v method)) k e = absurd cc
    counted_kind (Some (objects.Range start stop step)) k e = absurd cc
    counted_kind (Some (objects.Module name dict)) k e = absurd cc

    pub tuple_kind : (v : ValuePart) (k : ℕ) → tuple_count shelf snap v ≡ Some k → kind_of_part snap v ≡ Some ATuple
    tuple_kind parts.None k e = absurd cc
    tuple_kind parts.False k e = absurd cc
    tuple_kind parts.True k e = absurd cc
    tuple_kind (parts.Int z) k e = absurd cc
    tuple_kind (parts.Object number) k e = counted_kind (slice_get snap.objects number) k e
    tuple_kind (parts.Str text) k e = absurd cc
    tuple_kind (parts.Fixed m n) k e = refl
    tuple_kind parts.Empty k e = refl
    tuple_kind (parts.Named name) k e = absurd cc

    -- dicts
    -- =====

    pair_fine : (q : Value × Value) → IsPair library world (plain_pair (text_at shelf) (items_at shelf) q) → IsFinePair shelf snap (pair_part shelf place q)
    pair_fine q h = record {
      key = plain_part (q.0) h.0;
      is_key = ap is_some (key_part (q.0) h.0) ∙ h.1;
      value = plain_part (q.1) h.2;
    }

    pub pairs_fine : (qs : List (Value × Value)) → Each (IsPair library world) (map pairly qs) → Each (IsFinePair shelf snap) (map pair_at qs)
    pairs_fine [] h = tt
    pairs_fine (q ∷ qs) h = (pair_fine q h.0, pairs_fine qs h.1)

    differs_from : (q : Value × Value) (qs : List (Value × Value)) → IsPair library world (pairly q) → Each (IsPair library world) (map pairly qs)
        → Each (λ r. has_key world ((pairly q).0) r ≡ false) (map pairly qs) → (j : ℕ) → j < length (map pair_at qs) → key_of_part snap (value_part shelf place (q.0)) ≡ key_in_part snap (map pair_at qs) j → ⊥
    differs_from q [] h hs d j lt e = absurd (omega (arith, lt))
    differs_from q (r ∷ qs) h hs d zero lt e =
        one_key (key_of world (plainly (q.0))) (key_of world (plainly (r.0))) h.1 (sym (key_part (q.0) h.0) ∙ (e ∙ key_part (r.0) hs.0.0)) d.0
    differs_from q (r ∷ qs) h hs d (suc j) lt e = differs_from q qs h hs.1 d.1 j (omega (arith, lt)) e

    pub differ : (qs : List (Value × Value)) → Each (IsPair library world) (map pairly qs) → Differ world (map pairly qs) → (i j : ℕ) → i < j → j < length (map pair_at qs)
        → key_in_part snap (map pair_at qs) i ≡ key_in_part snap (map pair_at qs) j → ⊥
    differ [] h d i j lt within e = absurd (omega (arith, within))
    differ (q ∷ qs) h d i zero lt within e = absurd (omega (arith, lt))
    differ (q ∷ qs) h d zero (suc j) lt within e = differs_from q qs h.0 h.1 d.0 j (omega (arith, within)) e
    differ (q ∷ qs) h d (suc i) (suc j) lt within e = differ qs h.1 d.1 i j (omega (arith, lt)) (omega (arith, within)) e

    -- a key that is a name is a constant str
    pub str_part : (v : Value) (name : Name) → plainly v ≡ Str name → value_part shelf place v ≡ parts.Str name
    str_part (values.Str x) name e = ap (λ z. parts.Str z) (sym (or_no_text (text_at shelf x)) ∙ text_of (or_nothing (text_at shelf x)) name e)
      where
        text_of : (a b : List ℕ) → Str a ≡ Str b → a ≡ b
        text_of a b f = cc
    str_part (values.Fixed c) name e = absurd (no_str (map (plain_by (text_at shelf) (fixed_within (text_at shelf) (items_at shelf) 31)) (or_nothing (items_at shelf c))) name (sym (fixed_is shelf c) ∙ e))
    str_part values.None name e = absurd cc
    str_part (values.Bool b) name e = absurd cc
    str_part (values.Int z) name e = absurd cc
    str_part values.Empty name e = absurd cc
    str_part (values.Built b) name e = absurd cc
    str_part (values.List l) name e = absurd cc
    str_part (values.Dict d) name e = absurd cc
    str_part (values.Tuple t) name e = absurd cc
    str_part (values.Text t) name e = absurd cc
    str_part (values.Fun f) name e = absurd cc
    str_part (values.Exc x) name e = absurd cc
    str_part (values.Method m) name e = absurd cc
    str_part (values.Range r) name e = absurd cc
    str_part (values.Module m) name e = absurd cc

    pub nil_part : (v : Value) → plainly v ≡ Nil → value_part shelf place v ≡ parts.None
    nil_part values.None e = refl
    nil_part (values.Fixed c) e = absurd (no_nil (map (plain_by (text_at shelf) (fixed_within (text_at shelf) (items_at shelf) 31)) (or_nothing (items_at shelf c))) (sym (fixed_is shelf c) ∙ e))
    nil_part (values.Str x) e = absurd cc
    nil_part (values.Bool b) e = absurd cc
    nil_part (values.Int z) e = absurd cc
    nil_part values.Empty e = absurd cc
    nil_part (values.Built b) e = absurd cc
    nil_part (values.List l) e = absurd cc
    nil_part (values.Dict d) e = absurd cc
    nil_part (values.Tuple t) e = absurd cc
    nil_part (values.Text t) e = absurd cc
    nil_part (values.Fun f) e = absurd cc
    nil_part (values.Exc x) e = absurd cc
    nil_part (values.Method m) e = absurd cc
    nil_part (values.Range r) e = absurd cc
    nil_part (values.Module m) e = absurd cc
