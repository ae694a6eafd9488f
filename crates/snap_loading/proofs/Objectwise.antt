-- Each object of a snapshot that was saved is such as a snapshot of a state has.
use Rattle.std.proofs.Common.{◌≡◌, ◌≢◌, ◌⊎◌, inl, inr, ℕ, suc, ◌<◌, List, [], ◌∷◌, length, map, Option, Some, None, slice_get, position, refl, sym, ap, ◌∙◌, subst, arith, All}
use Rattle.std.specs.Prelude.{Contains, codes, unwrap_or, option_and_then, IsSome}
use Rattle.std.specs.List.{AllByRecursion as Each}
use Rattle.std.specs.Str.{bytes_eq}
use Rattle.std.proofs.lemmas.List.{length-map}
use Rattle.std.proofs.lemmas.List.Elements.{All-from_recursion, All-head}
use Rattle.std.proofs.lemmas.Option.{slice_get_within, get_or_from_slice_get}
use Rattle.mpy_base.specs.declared.builtin.Builtin.{Builtin}
use Rattle.mpy_base.specs.declared.builtin.Builtin.TheVariants as builtins
use Rattle.mpy_base.specs.Val.{Val, Nil}
use Rattle.mpy_base.specs.World.{Heap, ListObject, TupleObject, TextObject, DictObject, FunctionObject, ExceptionObject, MethodObject, RangeObject, ModuleObject, ObjectKind, AList, ADict, AText, object, names_of}
use Rattle.arena_heap.specs.declared.value.Value.{Value}
use Rattle.arena_heap.specs.declared.value.Value.TheVariants as values
use Rattle.arena_heap.specs.declared.value.StrNo.TheVariants as strs
use Rattle.arena_heap.specs.Values.{ArenaObject, Leads, Sound, IsFormed, IsList, IsDict as IsDictValue, IsStr, IsMethodOf, IsWithinRoom, HasOwnRoom, held}
use Rattle.bc_library.specs.Constants.{items_at, text_at}
use Rattle.bc_library.specs.Shelf.{Shelf, Named, names}
use Rattle.bc_library.proofs.bc_verify_lemmas.qstr_pool_lemmas.Places.{found}
use Rattle.bc_machine.specs.mpy_tree.Resolved.{ResolvedModule, Resolves}
use Rattle.bc_machine.specs.py_values.Shown.{PlainHeap}
use Rattle.bc_machine.specs.Library.{Name, Code, Module, Library, module_of}
use Rattle.vm_starting.specs.frame_calls.arena_objects.Iterables.{or_nothing}
use Rattle.vm_starting.specs.vm_states.prim_modules.Registry.{Registry}
use Rattle.vm_starting.specs.vm_states.vm_frames.Calls.{Call}
use Rattle.vm_starting.specs.Programs.{FindsAll}
use Rattle.vm_machine.specs.prim_walks.Plain.{plain, plain_name}
use Rattle.snap_saving.specs.Shown.{name_of, module_part, value_part}
use Rattle.snap_laws.specs.Filled.{AreFilled, IsFilled}
use Rattle.snap_kept.specs.Values as kept
use Rattle.snap_kept.specs.Values.{IsNamed, IsDict, IsModuleName, AreFine, count_of}
use Rattle.snap_grammar.specs.declared.parts.ObjectPart.{ObjectPart}
use Rattle.snap_grammar.specs.declared.parts.ValuePart.TheVariants as parts
use Rattle.snap_grammar.specs.declared.parts.Snapshot.{Snapshot}
use Rattle.snap_states.specs.Parts.{method_of}
use Rattle.snap_states.specs.Shapes.{HasDefaults}
use Rattle.snap_states.specs.States.{kind_of_part, HasName, IsFineDict, IsFineFunction, IsFineModule, IsFineObject, AreFineObjects, tuple_count, IsPlain}
use Rattle.snap_states.specs.States as states
use Rattle.snap_loading.proofs.Saving.{kind_there}
use Rattle.snap_loading.proofs.Tabled.{IsHeld, HasNumbers, held as held_module, code_held, name_known}
use Rattle.snap_loading.proofs.Fining.{snap, place, plainly, plain_one, world, part, pairly, pair_at, cell_at, Fine, fine_at, owns_at, owner_names, world_at, space, plain_part, plain_parts, count_part, tuple_kind, pairs_fine, differ, str_part, nil_part, name_fine, or_no_text}

some_is : {A : Type 0} (x y : A) → Some x ≡ Some y → x ≡ y
some_is x y e = cc

-- a code of a module has as many defaults as the file's code
abbrev pub HasCodes : Shelf → Type 0
HasCodes shelf =
    (i : ℕ) (n : Named) (tree : ResolvedModule) (k : ℕ) (c : Code) → slice_get shelf.modules i ≡ Some n → Resolves n.held tree → slice_get (module_of tree).codes k ≡ Some c
    → HasDefaults shelf i k c.given

-- a library, and what every arena keeps
pub record IsGiven (shelf : Shelf) (library : Library) (heap : Heap Value ℕ) : Type 0 where
  pub finds : FindsAll shelf library
  pub numbers : HasNumbers shelf
  pub codes : HasCodes shelf
  pub some_names : (i : ℕ) (n : Named) → slice_get shelf.modules i ≡ Some n → n.name ≢ []
  pub sound : Sound heap.objects
  pub rooms : (n : ℕ) → IsWithinRoom (object heap.objects n)
  pub own_rooms : (n : ℕ) → HasOwnRoom (object heap.objects n)

-- the name of a module that the machine's library has is one of the library's
at_name : (names : List Name) (name : Name) (i : ℕ) → slice_get names i ≡ Some name → Contains (codes "__main__" ∷ names) name
at_name names name i e = let within = slice_get_within names i name e in (suc i, omega (arith, within), get_or_from_slice_get names i name name e)

module _ (shelf : Shelf) (heap : Heap Value ℕ) (modules : Registry) (calls : List Call) (paid : ℕ) (library : Library) (fine : AreFine library (world shelf heap modules calls paid)) (given : IsGiven shelf library heap) where
  abbrev shot : Snapshot
  shot = snap shelf heap modules calls paid

  abbrev lay : ℕ → ℕ
  lay = place shelf heap modules calls paid

  abbrev whole : PlainHeap
  whole = world shelf heap modules calls paid

  abbrev bare : Value → Val
  bare = plainly shelf heap modules calls paid

  abbrev piece : ArenaObject → ObjectPart
  piece = part shelf heap modules calls paid

  fine_of : (n : ℕ) (o : ArenaObject) → object heap.objects n ≡ Some o → Fine shelf heap modules calls paid library fine n (plain_one shelf heap modules calls paid (Some o))
  fine_of n o e = fine_at shelf heap modules calls paid library fine n o e

  -- what an object holds
  formed_of : (n : ℕ) (o : ArenaObject) → object heap.objects n ≡ Some o → IsFormed (Some o)
  formed_of n o e = subst IsFormed e (given.sound.formed n)

  holds : (n : ℕ) (o : ArenaObject) → object heap.objects n ≡ Some o → All (Leads heap.objects) (held (Some o))
  holds n o e = subst (λ z. All (Leads heap.objects) (held z)) e (given.sound.leads n)

  within_of : (n : ℕ) (o : ArenaObject) → object heap.objects n ≡ Some o → IsWithinRoom (Some o)
  within_of n o e = subst IsWithinRoom e (given.rooms n)

  room_of : (n : ℕ) (o : ArenaObject) → object heap.objects n ≡ Some o → HasOwnRoom (Some o)
  room_of n o e = subst HasOwnRoom e (given.own_rooms n)

  -- dicts
  names_fine : (qs : List (Value × Value)) → Each (IsNamed library) (map (pairly shelf heap modules calls paid) qs) → Each (HasName shelf shot) (map (pair_at shelf heap modules calls paid) qs)
  names_fine [] h = tt
  names_fine (q ∷ qs) h = (
    record {
      text = h.0.0;
      key_is = str_part shelf heap modules calls paid library fine (q.0) h.0.0 h.0.1;
      name = name_known shelf library given.finds given.numbers h.0.0 h.0.2;
    },
    names_fine qs h.1,
  )

  dict_fine : (n : ℕ) (pairs : List (Value × Value)) (room : ℕ) → object heap.objects n ≡ Some (DictObject pairs room) → IsFineDict shelf shot (lay n) room (map (pair_at shelf heap modules calls paid) pairs)
  dict_fine n pairs room e =
      let h : IsDict library whole n (map (pairly shelf heap modules calls paid) pairs) = fine_of n (DictObject pairs room) e in
      let most = within_of n (DictObject pairs room) e in
      let many = length-map pairs (pair_at shelf heap modules calls paid) in
      record {
        has = record { is_room = room_of n (DictObject pairs room) e; holds = omega (arith, most, many) };
        fine = All-from_recursion (states.IsFinePair shelf shot) (map (pair_at shelf heap modules calls paid) pairs) (pairs_fine shelf heap modules calls paid library fine pairs h.plain);
        once = λ i j lt within same. differ shelf heap modules calls paid library fine pairs h.plain h.differ i j lt within same;
        named = λ m owns.
            All-from_recursion (HasName shelf shot) (map (pair_at shelf heap modules calls paid) pairs)
            (names_fine pairs (h.named ((owns_at shelf heap modules calls paid library fine m (lay n) owns).cell, owner_names shelf heap modules calls paid library fine m n (DictObject pairs room) e owns)));
      }

  -- functions
  part_is : (n i : ℕ) (m : Module) (h : IsHeld shelf (plain_name (text_at shelf) (items_at shelf) n) m) → h.i ≡ i → module_part shelf n ≡ i
  part_is n i m h at = by (text_at shelf (strs.Pool n)) refl
    where
      by : (o : Option (List ℕ)) → text_at shelf (strs.Pool n) ≡ o → module_part shelf n ≡ i
      by (Some text) e =
          let is : plain_name (text_at shelf) (items_at shelf) n ≡ text = ap or_nothing e in
          ap (λ z. unwrap_or (option_and_then (λ text. position (bytes_eq text) (names shelf)) z) 0) e
          ∙ (ap (λ z. unwrap_or (position (bytes_eq z) (names shelf)) 0) (sym is) ∙ (ap (λ z. unwrap_or z 0) h.place ∙ at))
      by None e = absurd (given.some_names h.i h.n h.there (h.name_is ∙ ap or_nothing e))

  defaults_fine : (v : Value) (k : ℕ) → kept.IsPlain library whole (bare v) → (bare v ≡ Nil) ⊎ (count_of whole (bare v) ≡ Some k)
      → (value_part shelf lay v ≡ parts.None) ⊎ (tuple_count shelf shot (value_part shelf lay v) ≡ Some k)
  defaults_fine v k h (inl e) = inl (nil_part shelf heap modules calls paid library fine v e)
  defaults_fine v k h (inr e) = inr (count_part shelf heap modules calls paid library fine v h ∙ e)

  function_fine : (n name module_name code dict : ℕ) (defaults : Value) → object heap.objects n ≡ Some (FunctionObject name module_name code dict defaults)
      → IsFineFunction shelf shot (module_part shelf module_name) code (lay dict) (value_part shelf lay defaults)
  function_fine n name module_name code dict defaults e =
      let h = fine_of n (FunctionObject name module_name code dict defaults) e in
      let c = code_held shelf library given.finds (plain_name (text_at shelf) (items_at shelf) module_name) code h.its h.there in
      let m = held_module shelf library given.finds (plain_name (text_at shelf) (items_at shelf) module_name) c.0 c.1 in
      let at : slice_get (module_of m.tree).codes code ≡ Some h.its = ap (λ (z : Module). slice_get z.codes code) (sym m.is) ∙ c.2 in
      let has : HasDefaults shelf m.i code h.its.given = given.codes m.i m.n m.tree code h.its m.there m.resolves at in
      record {
        count = h.its.given;
        has = subst (λ z. HasDefaults shelf z code h.its.given) (sym (part_is module_name m.i c.0 m refl)) has;
        namespace = space shelf heap modules calls paid library fine dict h.namespace;
        plain = plain_part shelf heap modules calls paid library fine defaults h.plain;
        as_many = defaults_fine defaults h.its.given h.plain h.count;
      }

  -- exceptions
  some_count : (o : Option ℕ) → IsSome o → (k : ℕ) × (o ≡ Some k)
  some_count None h = absurd cc
  some_count (Some k) h = (k, refl)

  -- methods
  list_kind : (v : Value) → IsList v → Leads heap.objects v → kind_of_part shot (value_part shelf lay v) ≡ Some AList
  list_kind (values.List l) h leads = kind_there shelf heap modules calls paid AList l.cell leads.meets
  list_kind _ h leads = absurd h

  dict_kind : (v : Value) → IsDictValue v → Leads heap.objects v → kind_of_part shot (value_part shelf lay v) ≡ Some ADict
  dict_kind (values.Dict d) h leads = kind_there shelf heap modules calls paid ADict d.cell leads.meets
  dict_kind _ h leads = absurd h

  str_kind : (v : Value) → IsStr v → Leads heap.objects v → kind_of_part shot (value_part shelf lay v) ≡ Some AText
  str_kind (values.Text t) h leads = kind_there shelf heap modules calls paid AText t.cell leads.meets
  str_kind (values.Str x) h leads = refl
  str_kind _ h leads = absurd h

  -- a method is one of its object's kind
  record IsBoundTo (method : Builtin) (v : Value) : Type 0 where
    kind : ObjectKind
    method_is : method_of method ≡ Some kind
    value_is : kind_of_part shot (value_part shelf lay v) ≡ Some kind

  bound : (method : Builtin) (v : Value) → IsMethodOf method v → Leads heap.objects v → IsBoundTo method v
  bound builtins.ListAppend v h leads = record { kind = AList; method_is = refl; value_is = list_kind v h leads }
  bound builtins.ListPop v h leads = record { kind = AList; method_is = refl; value_is = list_kind v h leads }
  bound builtins.ListInsert v h leads = record { kind = AList; method_is = refl; value_is = list_kind v h leads }
  bound builtins.ListExtend v h leads = record { kind = AList; method_is = refl; value_is = list_kind v h leads }
  bound builtins.DictGet v h leads = record { kind = ADict; method_is = refl; value_is = dict_kind v h leads }
  bound builtins.DictKeys v h leads = record { kind = ADict; method_is = refl; value_is = dict_kind v h leads }
  bound builtins.DictValues v h leads = record { kind = ADict; method_is = refl; value_is = dict_kind v h leads }
  bound builtins.DictItems v h leads = record { kind = ADict; method_is = refl; value_is = dict_kind v h leads }
  bound builtins.DictPop v h leads = record { kind = ADict; method_is = refl; value_is = dict_kind v h leads }
  bound builtins.StrJoin v h leads = record { kind = AText; method_is = refl; value_is = str_kind v h leads }
  bound builtins.StrFind v h leads = record { kind = AText; method_is = refl; value_is = str_kind v h leads }
  bound builtins.StrStartsWith v h leads = record { kind = AText; method_is = refl; value_is = str_kind v h leads }
  bound builtins.StrSplit v h leads = record { kind = AText; method_is = refl; value_is = str_kind v h leads }
  bound _ v h leads = absurd h

  method_fine : (n : ℕ) (v : Value) (method : Builtin) → object heap.objects n ≡ Some (MethodObject v method) → IsFineObject shelf shot (lay n) (piece (MethodObject v method))
  method_fine n v method e =
      let h = fine_of n (MethodObject v method) e in
      let b = bound method v (formed_of n (MethodObject v method) e) (All-head (Leads heap.objects) v [] (holds n (MethodObject v method) e)) in
      record {
        method = method;
        named = refl;
        kind = b.kind;
        method_is = b.method_is;
        value_is = b.value_is;
        plain = plain_part shelf heap modules calls paid library fine v h.0;
      }

  -- modules
  known_by : (title : ℕ) → IsModuleName library (plain_name (text_at shelf) (items_at shelf) title) → Contains (codes "__main__" ∷ names shelf) (plain_name (text_at shelf) (items_at shelf) title)
  known_by title (inl e) = (0, omega arith, sym e)
  known_by title (inr h) =
      let name = plain_name (text_at shelf) (items_at shelf) title in
      let m = held_module shelf library given.finds name h.0 h.1 in
      at_name (names shelf) name m.i (found (names shelf) name m.i m.place)

  module_fine : (n title dict : ℕ) → object heap.objects n ≡ Some (ModuleObject title (Some dict)) → IsFineModule shelf shot (name_of shelf title) (lay dict)
  module_fine n title dict e =
      let h = fine_of n (ModuleObject title (Some dict)) e in
      record {
        known = subst (Contains (codes "__main__" ∷ names shelf)) (or_no_text (text_at shelf (strs.Pool title))) (known_by title h.named);
        namespace = space shelf heap modules calls paid library fine dict (n, ap names_of (world_at shelf heap modules calls paid n ∙ ap (plain_one shelf heap modules calls paid) e));
      }

  -- all
  module _ (filled : AreFilled whole) where
    filled_of : (n : ℕ) (o : ArenaObject) → object heap.objects n ≡ Some o → IsFilled (plain_one shelf heap modules calls paid (Some o))
    filled_of n o e = subst IsFilled (world_at shelf heap modules calls paid n ∙ ap (plain_one shelf heap modules calls paid) e) (filled.filled n)

    some_items : (items : List Value) → IsFilled (Some (TupleObject (map bare items))) → 0 < length (map (value_part shelf lay) items)
    some_items [] h = absurd h
    some_items (v ∷ vs) h = omega arith

    some_bytes : (bytes : List ℕ) → IsFilled (Some (TextObject bytes)) → 0 < length bytes
    some_bytes [] h = absurd h
    some_bytes (b ∷ bs) h = omega arith

    fine_part : (n : ℕ) (o : ArenaObject) → object heap.objects n ≡ Some o → IsFineObject shelf shot (lay n) (piece o)
    fine_part n (ListObject items room) e =
        let most = within_of n (ListObject items room) e in
        let many = length-map items (value_part shelf lay) in (
          record { is_room = room_of n (ListObject items room) e; holds = omega (arith, most, many) },
          plain_parts shelf heap modules calls paid library fine items (fine_of n (ListObject items room) e),
        )
    fine_part n (TupleObject items) e = (some_items items (filled_of n (TupleObject items) e), plain_parts shelf heap modules calls paid library fine items (fine_of n (TupleObject items) e))
    fine_part n (TextObject bytes) e = (some_bytes bytes (filled_of n (TextObject bytes) e), formed_of n (TextObject bytes) e)
    fine_part n (DictObject pairs room) e = dict_fine n pairs room e
    fine_part n (FunctionObject name module_name code dict defaults) e = function_fine n name module_name code dict defaults e
    fine_part n (ExceptionObject kind args file line name) e =
        let h = fine_of n (ExceptionObject kind args file line name) e in
        let k = some_count (count_of whole (bare args)) h.tuple in
        record {
          of_kind = kind;
          kind_is = refl;
          args_are = tuple_kind shelf heap modules calls paid library fine (value_part shelf lay args) k.0 (count_part shelf heap modules calls paid library fine args h.plain ∙ k.1);
          plain = plain_part shelf heap modules calls paid library fine args h.plain;
          file_is = name_fine shelf file;
          name_is = name_fine shelf name;
        }
    fine_part n (MethodObject v method) e = method_fine n v method e
    fine_part n (RangeObject start stop step) e = formed_of n (RangeObject start stop step) e
    fine_part n (ModuleObject title (Some dict)) e = module_fine n title dict e
    fine_part n (ModuleObject title None) e = absurd (let no = (fine_of n (ModuleObject title None) e).is in cc)

    pub fine_objects : AreFineObjects shelf shot
    fine_objects = λ number o e.
        let c = cell_at shelf heap modules calls paid number o e in
        subst (λ z. IsFineObject shelf shot z o) c.at (subst (λ z. IsFineObject shelf shot (lay c.cell) z) c.is (fine_part c.cell c.own c.there))
