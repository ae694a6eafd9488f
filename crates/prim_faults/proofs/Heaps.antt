-- Changes of an arena's heap, as changes of the heap that the meaning has.
use Rattle.std.proofs.Common.{◌≡◌, ℕ, zero, suc, ◌+◌, ◌-◌, ◌^◌, min, List, ◌∷◌, ◌++◌, map, set, replicate, true, false, nat_le, ◌&&◌, Option, Some, None, refl, sym, ap, ap₂, ◌∙◌}
use Rattle.std.specs.Prelude.{if◌then◌else◌}
use Rattle.std.proofs.lemmas.List.{map-append, map-set, length-map}
use Rattle.prim_walks.specs.arena_heap.declared.value.Value.{Value}
use Rattle.prim_walks.specs.arena_heap.declared.value.StrNo.{StrNo}
use Rattle.prim_walks.specs.arena_heap.declared.value.ConstNo.{ConstNo}
use Rattle.prim_walks.specs.mpy_base.World.{Object, ListObject, TupleObject, TextObject, DictObject, FunctionObject, ExceptionObject, MethodObject, RangeObject, ModuleObject, Heap, object, kind_of, items_of, items_at, room_of, room_at, pairs_of, pairs_at, with_object, with_list, with_dict}
use Rattle.prim_walks.specs.mpy_base.Weights.{used, more_cells, bytes_of, with_made, does_fit, no_room}
use Rattle.prim_walks.specs.mpy_base.Val.{Val}
use Rattle.prim_walks.specs.arena_heap.Values.{ArenaObject}
use Rattle.prim_walks.specs.Plain.{plain, plain_pair, plain_name, plain_object, plain_heap}
use Rattle.prim_walks.proofs.PlainValues.{object_plain}

map_nones : {X Y : Type 0} (f : X → Y) (x : X) (k : ℕ) → map f (replicate k x) ≡ replicate k (f x)
map_nones f x zero = refl
map_nones f x (suc k) = ap (λ ys. f x ∷ ys) (map_nones f x k)

module _ (texts : StrNo → Option (List ℕ)) (tuples : ConstNo → Option (List Value)) where
  -- an object that was made, as the meaning has it
  abbrev pub plain_made : ArenaObject → Object Val (List ℕ)
  plain_made (ListObject items room) = ListObject (map (plain texts tuples) items) room
  plain_made (TupleObject items) = TupleObject (map (plain texts tuples) items)
  plain_made (TextObject bytes) = TextObject bytes
  plain_made (DictObject pairs room) = DictObject (map (plain_pair texts tuples) pairs) room
  plain_made (FunctionObject name module_name code names defaults) =
      FunctionObject (plain_name texts tuples name) (plain_name texts tuples module_name) code names (plain texts tuples defaults)
  plain_made (ExceptionObject kind args file line name) =
      ExceptionObject kind (plain texts tuples args) (plain_name texts tuples file) line (plain_name texts tuples name)
  plain_made (MethodObject v method) = MethodObject (plain texts tuples v) method
  plain_made (RangeObject start stop step) = RangeObject start stop step
  plain_made (ModuleObject name names) = ModuleObject (plain_name texts tuples name) names

  pub some_plain : (o : ArenaObject) → plain_object texts tuples (Some o) ≡ Some (plain_made o)
  some_plain (ListObject items room) = refl
  some_plain (TupleObject items) = refl
  some_plain (TextObject bytes) = refl
  some_plain (DictObject pairs room) = refl
  some_plain (FunctionObject name module_name code names defaults) = refl
  some_plain (ExceptionObject kind args file line name) = refl
  some_plain (MethodObject v method) = refl
  some_plain (RangeObject start stop step) = refl
  some_plain (ModuleObject name names) = refl

  pub cells_plain : (o : ArenaObject) → more_cells (plain_made o) ≡ more_cells o
  cells_plain (ListObject items room) = refl
  cells_plain (TupleObject items) = length-map items (plain texts tuples)
  cells_plain (TextObject bytes) = refl
  cells_plain (DictObject pairs room) = refl
  cells_plain (FunctionObject name module_name code names defaults) = refl
  cells_plain (ExceptionObject kind args file line name) = refl
  cells_plain (MethodObject v method) = refl
  cells_plain (RangeObject start stop step) = refl
  cells_plain (ModuleObject name names) = refl

  pub bytes_plain : (o : ArenaObject) → bytes_of (plain_made o) ≡ bytes_of o
  bytes_plain (ListObject items room) = refl
  bytes_plain (TupleObject items) = refl
  bytes_plain (TextObject bytes) = refl
  bytes_plain (DictObject pairs room) = refl
  bytes_plain (FunctionObject name module_name code names defaults) = refl
  bytes_plain (ExceptionObject kind args file line name) = refl
  bytes_plain (MethodObject v method) = refl
  bytes_plain (RangeObject start stop step) = refl
  bytes_plain (ModuleObject name names) = refl

  pub kind_plain : (o : Option ArenaObject) → kind_of (plain_object texts tuples o) ≡ kind_of o
  kind_plain None = refl
  kind_plain (Some (ListObject items room)) = refl
  kind_plain (Some (TupleObject items)) = refl
  kind_plain (Some (TextObject bytes)) = refl
  kind_plain (Some (DictObject pairs room)) = refl
  kind_plain (Some (FunctionObject name module_name code names defaults)) = refl
  kind_plain (Some (ExceptionObject kind args file line name)) = refl
  kind_plain (Some (MethodObject v method)) = refl
  kind_plain (Some (RangeObject start stop step)) = refl
  kind_plain (Some (ModuleObject name names)) = refl

  room_plain : (o : Option ArenaObject) → room_of (plain_object texts tuples o) ≡ room_of o
  room_plain None = refl
  room_plain (Some (ListObject items room)) = refl
  room_plain (Some (TupleObject items)) = refl
  room_plain (Some (TextObject bytes)) = refl
  room_plain (Some (DictObject pairs room)) = refl
  room_plain (Some (FunctionObject name module_name code names defaults)) = refl
  room_plain (Some (ExceptionObject kind args file line name)) = refl
  room_plain (Some (MethodObject v method)) = refl
  room_plain (Some (RangeObject start stop step)) = refl
  room_plain (Some (ModuleObject name names)) = refl

  items_plain : (o : Option ArenaObject) → items_of (plain_object texts tuples o) ≡ map (plain texts tuples) (items_of o)
  items_plain None = refl
  items_plain (Some (ListObject items room)) = refl
  items_plain (Some (TupleObject items)) = refl
  items_plain (Some (TextObject bytes)) = refl
  items_plain (Some (DictObject pairs room)) = refl
  items_plain (Some (FunctionObject name module_name code names defaults)) = refl
  items_plain (Some (ExceptionObject kind args file line name)) = refl
  items_plain (Some (MethodObject v method)) = refl
  items_plain (Some (RangeObject start stop step)) = refl
  items_plain (Some (ModuleObject name names)) = refl

  pairs_plain : (o : Option ArenaObject) → pairs_of (plain_object texts tuples o) ≡ map (plain_pair texts tuples) (pairs_of o)
  pairs_plain None = refl
  pairs_plain (Some (ListObject items room)) = refl
  pairs_plain (Some (TupleObject items)) = refl
  pairs_plain (Some (TextObject bytes)) = refl
  pairs_plain (Some (DictObject pairs room)) = refl
  pairs_plain (Some (FunctionObject name module_name code names defaults)) = refl
  pairs_plain (Some (ExceptionObject kind args file line name)) = refl
  pairs_plain (Some (MethodObject v method)) = refl
  pairs_plain (Some (RangeObject start stop step)) = refl
  pairs_plain (Some (ModuleObject name names)) = refl

  module _ (h : Heap Value ℕ) where
    pub used_plain : used (plain_heap texts tuples h) ≡ used h
    used_plain = length-map h.objects (plain_object texts tuples)

    pub fit_plain : (cells bytes : ℕ) → does_fit (plain_heap texts tuples h) cells bytes ≡ does_fit h cells bytes
    fit_plain cells bytes = ap (λ (n : ℕ). nat_le (n + cells) h.cell_size && nat_le (h.bytes + bytes) h.byte_size) used_plain

    pub no_room_plain : (cells bytes : ℕ) → no_room (plain_heap texts tuples h) cells bytes ≡ no_room h cells bytes
    no_room_plain cells bytes =
        ap (λ (n : ℕ). if nat_le (n + cells) h.cell_size
        then record { asked = min bytes (2 ^ 64 - 1); used = h.bytes; size = h.byte_size; bytes = true }
        else record { asked = min cells (2 ^ 64 - 1); used = n; size = h.cell_size; bytes = false }) used_plain

    pub object_of : (n : ℕ) → object (plain_heap texts tuples h).objects n ≡ plain_object texts tuples (object h.objects n)
    object_of n = object_plain texts tuples h.objects n

    pub room_of_plain : (n : ℕ) → room_at (plain_heap texts tuples h) n ≡ room_at h n
    room_of_plain n = ap room_of (object_of n) ∙ room_plain (object h.objects n)

    pub items_of_plain : (n : ℕ) → items_at (plain_heap texts tuples h) n ≡ map (plain texts tuples) (items_at h n)
    items_of_plain n = ap items_of (object_of n) ∙ items_plain (object h.objects n)

    pub pairs_of_plain : (n : ℕ) → pairs_at (plain_heap texts tuples h) n ≡ map (plain_pair texts tuples) (pairs_at h n)
    pairs_of_plain n = ap pairs_of (object_of n) ∙ pairs_plain (object h.objects n)

    rest_plain : (o : ArenaObject) → map (plain_object texts tuples) (Some o ∷ replicate (more_cells o) None) ≡ Some (plain_made o) ∷ replicate (more_cells (plain_made o)) None
    rest_plain o =
        let none : Option (Object Val (List ℕ)) = None in
        ap₂ (λ (x : Option (Object Val (List ℕ))) (ys : List (Option (Object Val (List ℕ)))). x ∷ ys) (some_plain o)
        (map_nones (plain_object texts tuples) None (more_cells o) ∙ ap (λ (k : ℕ). replicate k none) (sym (cells_plain o)))

    -- one object more
    pub made_plain : (o : ArenaObject) → plain_heap texts tuples (with_made h o) ≡ with_made (plain_heap texts tuples h) (plain_made o)
    made_plain o =
        ap₂ (λ (os : List (Option (Object Val (List ℕ)))) (k : ℕ). record (plain_heap texts tuples h) { objects = os; bytes = h.bytes + k })
        (map-append (plain_object texts tuples) h.objects (Some o ∷ replicate (more_cells o) None)
        ∙ ap (λ (ys : List (Option (Object Val (List ℕ)))). map (plain_object texts tuples) h.objects ++ ys) (rest_plain o)) (sym (bytes_plain o))

    -- another object in the place of one
    pub object_put : (n : ℕ) (o : ArenaObject) → plain_heap texts tuples (with_object h n o) ≡ with_object (plain_heap texts tuples h) n (plain_made o)
    object_put n o =
        ap (λ (os : List (Option (Object Val (List ℕ)))). record (plain_heap texts tuples h) { objects = os })
        (map-set (plain_object texts tuples) h.objects n (Some o) ∙ ap (λ (x : Option (Object Val (List ℕ))). set (map (plain_object texts tuples) h.objects) n x) (some_plain o))

    pub list_put : (n : ℕ) (items : List Value) → plain_heap texts tuples (with_list h n items) ≡ with_list (plain_heap texts tuples h) n (map (plain texts tuples) items)
    list_put n items =
        object_put n (ListObject items (room_at h n))
        ∙ ap (λ (r : ℕ). with_object (plain_heap texts tuples h) n (ListObject (map (plain texts tuples) items) r)) (sym (room_of_plain n))

    pub dict_put : (n : ℕ) (pairs : List (Value × Value)) → plain_heap texts tuples (with_dict h n pairs) ≡ with_dict (plain_heap texts tuples h) n (map (plain_pair texts tuples) pairs)
    dict_put n pairs =
        object_put n (DictObject pairs (room_at h n))
        ∙ ap (λ (r : ℕ). with_object (plain_heap texts tuples h) n (DictObject (map (plain_pair texts tuples) pairs) r)) (sym (room_of_plain n))
