-- The room and the registered modules of a snapshot that was saved.
use Rattle.std.proofs.Common.{◌≡◌, ℕ, zero, suc, ◌+◌, ◌<◌, ◌≤◌, false, List, [], ◌∷◌, length, map, reverse, Option, Some, None, slice_get, refl, sym, ap, ap₂, ◌∙◌, subst, arith}
use Rattle.std.specs.Prelude.{unwrap_or, option_and_then}
use Rattle.std.specs.List.{filter_map, IsDistinct, AllByRecursion as Each}
use Rattle.std.specs.Map.{keys_of}
use Rattle.std.specs.Option.{option_map}
use Rattle.std.specs.Str.{bytes_eq}
use Rattle.std.proofs.lemmas.Bool.{true≢false}
use Rattle.std.proofs.lemmas.List.{length-map, length-reverse}
use Rattle.std.proofs.lemmas.List.Elements.{All-from_recursion}
use Rattle.std.proofs.lemmas.List.Sums.{sum_by-cons}
use Rattle.std.proofs.lemmas.Slice.Eq.{bytes_eq-Decides}
use Rattle.mpy_base.specs.Val.{PlainWorld}
use Rattle.mpy_base.specs.World.{Heap, ListObject, TupleObject, TextObject, DictObject, FunctionObject, ExceptionObject, MethodObject, RangeObject, ModuleObject, ObjectKind, AModule, IsA, object, kind_of}
use Rattle.mpy_base.specs.declared.limits.TheConstants.{MAX_CALLS}
use Rattle.mpy_base.specs.Weights.{used}
use Rattle.arena_heap.specs.declared.value.Value.{Value}
use Rattle.arena_heap.specs.declared.value.StrNo.{StrNo}
use Rattle.arena_heap.specs.declared.value.StrNo.TheVariants as strs
use Rattle.arena_heap.specs.declared.value.ConstNo.{ConstNo}
use Rattle.arena_heap.specs.Values.{ArenaObject}
use Rattle.bc_library.specs.Constants.{text_at}
use Rattle.bc_library.specs.Shelf.{Shelf}
use Rattle.vm_starting.specs.frame_calls.arena_objects.Iterables.{or_nothing}
use Rattle.vm_starting.specs.vm_states.prim_modules.declared.entry.Entry.{Entry as Registered}
use Rattle.vm_starting.specs.vm_states.prim_modules.Registry.{Registry, plain_entry, plain_modules}
use Rattle.vm_starting.specs.vm_states.vm_frames.Calls.{Call}
use Rattle.vm_starting.specs.vm_states.Means.{Program}
use Rattle.vm_starting.specs.Programs.{IsProgramOf}
use Rattle.vm_starting.specs.declared.opening.Vm.{Vm}
use Rattle.vm_machine.specs.Machine.{RunsProgram, world_in}
use Rattle.vm_machine.specs.prim_walks.Plain.{plain, plain_name, plain_object}
use Rattle.snap_saving.specs.Shown.{place_in, name_of, value_part, object_part, registered_part, frame_part, snapshot_of}
use Rattle.snap_laws.specs.Filled.{bytes_in, text_bytes}
use Rattle.snap_kept.specs.Values.{title_of, cells_in, object_cells}
use Rattle.snap_kept.proofs.Onward.{title_kind}
use Rattle.snap_grammar.specs.declared.parts.Snapshot.{Snapshot}
use Rattle.snap_states.specs.Parts.{part_kind, cells_of_part, cells_of_parts, bytes_of_part, bytes_of_parts}
use Rattle.snap_states.specs.States.{IsAt, name_in_part, registered_name, HasRoom, AreRegisteredParts}
use Rattle.snap_loading.specs.Saved.{IsSaved}
use Rattle.snap_loading.proofs.Bridging.{get_map}
use Rattle.snap_loading.proofs.Gathering.{some_world, Gathered}
use Rattle.snap_loading.proofs.Matching.{before_is, part_at}

some_is : {A : Type 0} (x y : A) → Some x ≡ Some y → x ≡ y
some_is x y e = cc

-- registered modules
-- ==================

pub modules_titled : (w : PlainWorld) → Each (λ (m : List ℕ × ℕ). title_of (object w.heap.objects m.1) ≡ Some m.0) w.modules → Each (λ (m : List ℕ × ℕ). IsA w.heap.objects AModule m.1) w.modules
modules_titled w h = each w.modules h
  where
    each : (ms : List (List ℕ × ℕ)) → Each (λ (m : List ℕ × ℕ). title_of (object w.heap.objects m.1) ≡ Some m.0) ms → Each (λ (m : List ℕ × ℕ). IsA w.heap.objects AModule m.1) ms
    each [] h = tt
    each (m ∷ ms) h = (title_kind (object w.heap.objects m.1) m.0 h.0, each ms h.1)

-- an object and its part
-- ======================

module _ (shelf : Shelf) (place : ℕ → ℕ) where
  kind_same : (o : ArenaObject) → kind_of (Some o) ≡ Some (part_kind (object_part shelf place o))
  kind_same (ListObject items room) = refl
  kind_same (TupleObject items) = refl
  kind_same (TextObject bytes) = refl
  kind_same (DictObject pairs room) = refl
  kind_same (FunctionObject name module_name code names defaults) = refl
  kind_same (ExceptionObject kind args file line name) = refl
  kind_same (MethodObject v method) = refl
  kind_same (RangeObject start stop step) = refl
  kind_same (ModuleObject name names) = refl

  module _ (texts : StrNo → Option (List ℕ)) (tuples : ConstNo → Option (List Value)) where
    part_cells : (o : ArenaObject) → cells_of_part (object_part shelf place o) ≡ cells_in (plain_object texts tuples (Some o))
    part_cells (ListObject items room) = omega arith
    part_cells (TupleObject items) =
        let a = length-map items (value_part shelf place) in
        let b = length-map items (plain texts tuples) in
        omega (arith, a, b)
    part_cells (TextObject bytes) = omega arith
    part_cells (DictObject pairs room) = omega arith
    part_cells (FunctionObject name module_name code names defaults) = omega arith
    part_cells (ExceptionObject kind args file line name) = omega arith
    part_cells (MethodObject v method) = omega arith
    part_cells (RangeObject start stop step) = omega arith
    part_cells (ModuleObject name names) = omega arith

    part_bytes : (o : ArenaObject) → bytes_of_part (object_part shelf place o) ≡ bytes_in (plain_object texts tuples (Some o))
    part_bytes (ListObject items room) = refl
    part_bytes (TupleObject items) = refl
    part_bytes (TextObject bytes) = refl
    part_bytes (DictObject pairs room) = refl
    part_bytes (FunctionObject name module_name code names defaults) = refl
    part_bytes (ExceptionObject kind args file line name) = refl
    part_bytes (MethodObject v method) = refl
    part_bytes (RangeObject start stop step) = refl
    part_bytes (ModuleObject name names) = refl

    parts_cells : (xs : List (Option ArenaObject)) → cells_of_parts (filter_map (option_map (object_part shelf place)) xs) ≡ object_cells (map (plain_object texts tuples) xs)
    parts_cells [] = refl
    parts_cells (Some o ∷ xs) =
        let rest = filter_map (option_map (object_part shelf place)) xs in
        sum_by-cons (λ k. k) (cells_of_part (object_part shelf place o)) (map cells_of_part rest) ∙ ap₂ (λ a b. a + b) (part_cells o) (parts_cells xs)
    parts_cells (None ∷ xs) = let a = parts_cells xs in omega (arith, a)

    parts_bytes : (xs : List (Option ArenaObject)) → bytes_of_parts (filter_map (option_map (object_part shelf place)) xs) ≡ text_bytes (map (plain_object texts tuples) xs)
    parts_bytes [] = refl
    parts_bytes (Some o ∷ xs) =
        let rest = filter_map (option_map (object_part shelf place)) xs in
        sum_by-cons (λ k. k) (bytes_of_part (object_part shelf place o)) (map bytes_of_part rest) ∙ ap₂ (λ a b. a + b) (part_bytes o) (parts_bytes xs)
    parts_bytes (None ∷ xs) = let a = parts_bytes xs in omega (arith, a)

-- plain objects
-- =============

module _ (texts : StrNo → Option (List ℕ)) (tuples : ConstNo → Option (List Value)) where
  pub plain_at : (xs : List (Option ArenaObject)) (n : ℕ) → object (map (plain_object texts tuples) xs) n ≡ plain_object texts tuples (object xs n)
  plain_at [] n = refl
  plain_at (x ∷ xs) zero = refl
  plain_at (x ∷ xs) (suc n) = plain_at xs n

  pub plain_kind : (o : Option ArenaObject) → kind_of (plain_object texts tuples o) ≡ kind_of o
  plain_kind None = refl
  plain_kind (Some (ListObject items room)) = refl
  plain_kind (Some (TupleObject items)) = refl
  plain_kind (Some (TextObject bytes)) = refl
  plain_kind (Some (DictObject pairs room)) = refl
  plain_kind (Some (FunctionObject name module_name code names defaults)) = refl
  plain_kind (Some (ExceptionObject kind args file line name)) = refl
  plain_kind (Some (MethodObject v method)) = refl
  plain_kind (Some (RangeObject start stop step)) = refl
  plain_kind (Some (ModuleObject name names)) = refl

  pub plain_is : (xs : List (Option ArenaObject)) (kind : ObjectKind) (n : ℕ) → IsA (map (plain_object texts tuples) xs) kind n → IsA xs kind n
  plain_is xs kind n is = sym (plain_kind (object xs n)) ∙ (ap kind_of (sym (plain_at xs n)) ∙ is)

-- the snapshot
-- ============

module _ (shelf : Shelf) (heap : Heap Value ℕ) (modules : Registry) (calls : List Call) (paid : ℕ) where
  abbrev pub saved_as : Snapshot
  saved_as = snapshot_of shelf heap modules calls paid

  -- the part of an object stands at its place
  pub part_there : (n : ℕ) (o : ArenaObject) → object heap.objects n ≡ Some o → slice_get saved_as.objects (place_in heap n) ≡ Some (object_part shelf (place_in heap) o)
  part_there n o e = ap (λ k. slice_get saved_as.objects k) (before_is heap.objects n) ∙ part_at (object_part shelf (place_in heap)) heap.objects n o e

  pub kind_there : (kind : ObjectKind) (n : ℕ) → IsA heap.objects kind n → IsAt saved_as kind (place_in heap n)
  kind_there kind n is = by (object heap.objects n) refl is
    where
      by : (r : Option ArenaObject) → object heap.objects n ≡ r → kind_of r ≡ Some kind → IsAt saved_as kind (place_in heap n)
      by None e f = absurd cc
      by (Some o) e f = ap (option_map part_kind) (part_there n o e) ∙ (sym (kind_same shelf (place_in heap) o) ∙ f)

  module _ (texts : StrNo → Option (List ℕ)) (tuples : ConstNo → Option (List Value)) where
    -- room
    -- ====

    pub room : object_cells (map (plain_object texts tuples) heap.objects) ≤ length (map (plain_object texts tuples) heap.objects) → text_bytes (map (plain_object texts tuples) heap.objects) ≤ heap.bytes
        → used heap ≤ heap.cell_size → heap.bytes ≤ heap.byte_size → heap.cell_size ≤ 4194304 → heap.byte_size ≤ 16777216 → HasRoom saved_as
    room cells bytes cells_fit bytes_fit few_cells few_bytes =
        let a = parts_cells shelf (place_in heap) texts tuples heap.objects in
        let b = length-map heap.objects (plain_object texts tuples) in
        let c = parts_bytes shelf (place_in heap) texts tuples heap.objects in
        record {
          cells_held = omega (arith, a, b, cells);
          bytes_held = omega (arith, c, bytes);
          cells = cells_fit;
          bytes = bytes_fit;
          few_cells = few_cells;
          few_bytes = few_bytes;
        }

    -- registered modules
    -- ==================

    abbrev entry_in : Registered → List ℕ × ℕ
    entry_in e = plain_entry texts tuples e

    are_modules : (es : List Registered) → Each (λ m. IsA (map (plain_object texts tuples) heap.objects) AModule (m.1)) (map entry_in es) → Each (IsAt saved_as AModule) (map (registered_part (place_in heap)) es)
    are_modules [] h = tt
    are_modules (e ∷ es) h = (kind_there AModule e.object.cell (plain_is texts tuples heap.objects AModule e.object.cell h.0), are_modules es h.1)

    -- a registered module has in the snapshot the name by which it is registered
    module _ (same : texts ≡ text_at shelf) where
      named : (n : ℕ) → plain_name texts tuples n ≡ name_of shelf n
      named n = by (text_at shelf (strs.Pool n)) (ap (λ (t : StrNo → Option (List ℕ)). t (strs.Pool n)) same)
        where
          by : (o : Option (List ℕ)) → texts (strs.Pool n) ≡ o → or_nothing (texts (strs.Pool n)) ≡ unwrap_or o []
          by (Some text) e = ap or_nothing e
          by None e = ap or_nothing e

      registered_as : (n : ℕ) (name : List ℕ) → title_of (object (map (plain_object texts tuples) heap.objects) n) ≡ Some name → registered_name saved_as (place_in heap n) ≡ Some name
      registered_as n name e = by (object heap.objects n) refl (ap title_of (sym (plain_at texts tuples heap.objects n)) ∙ e)
        where
          by : (r : Option ArenaObject) → object heap.objects n ≡ r → title_of (plain_object texts tuples r) ≡ Some name → registered_name saved_as (place_in heap n) ≡ Some name
          by (Some (ModuleObject title names)) f g = ap (option_and_then name_in_part) (part_there n _ f) ∙ (ap (λ z. Some z) (sym (named title)) ∙ g)
          by (Some (ListObject items room)) f g = absurd cc
          by (Some (TupleObject items)) f g = absurd cc
          by (Some (TextObject bytes)) f g = absurd cc
          by (Some (DictObject pairs room)) f g = absurd cc
          by (Some (FunctionObject title module_name code names defaults)) f g = absurd cc
          by (Some (ExceptionObject kind args file line title)) f g = absurd cc
          by (Some (MethodObject v method)) f g = absurd cc
          by (Some (RangeObject start stop step)) f g = absurd cc
          by None f g = absurd cc

      abbrev Titled : List ℕ × ℕ → Type 0
      Titled m = title_of (object (map (plain_object texts tuples) heap.objects) m.1) ≡ Some m.0

      titled_at : (es : List Registered) → Each Titled (map entry_in es) → (i : ℕ) (e : Registered) → slice_get es i ≡ Some e → Titled (entry_in e)
      titled_at [] h i e f = absurd cc
      titled_at (x ∷ es) h zero e f = subst (λ (z : Registered). Titled (entry_in z)) (some_is x e f) h.0
      titled_at (x ∷ es) h (suc i) e f = titled_at es h.1 i e f

      differs_from : (name : List ℕ) (es : List Registered) (j : ℕ) (e : Registered) → Each (λ y. bytes_eq name y ≡ false) (keys_of (map entry_in es)) → slice_get es j ≡ Some e → name ≡ plain_name texts tuples e.name → ⊥
      differs_from name [] j e d f same_name = absurd cc
      differs_from name (x ∷ es) zero e d f same_name =
          let is : name ≡ plain_name texts tuples x.name = same_name ∙ ap (λ (z : Registered). plain_name texts tuples z.name) (sym (some_is x e f)) in
          true≢false (sym ((bytes_eq-Decides name (plain_name texts tuples x.name)).1 is) ∙ d.0)
      differs_from name (x ∷ es) (suc j) e d f same_name = differs_from name es j e d.1 f same_name

      differ : (es : List Registered) → IsDistinct bytes_eq (keys_of (map entry_in es)) → (i j : ℕ) (a b : Registered) → i < j → slice_get es i ≡ Some a → slice_get es j ≡ Some b
          → plain_name texts tuples a.name ≡ plain_name texts tuples b.name → ⊥
      unfolding IsDistinct
      differ [] d i j a b lt e f same_name = absurd cc
      differ (x ∷ es) d i zero a b lt e f same_name = absurd (omega (arith, lt))
      differ (x ∷ es) d zero (suc j) a b lt e f same_name =
          differs_from (plain_name texts tuples x.name) es j b d.0 f (ap (λ (z : Registered). plain_name texts tuples z.name) (some_is x a e) ∙ same_name)
      differ (x ∷ es) d (suc i) (suc j) a b lt e f same_name = differ es d.1 i j a b (omega (arith, lt)) e f same_name

      pub registered : Each (λ m. IsA (map (plain_object texts tuples) heap.objects) AModule (m.1)) (plain_modules texts tuples modules) → Each Titled (plain_modules texts tuples modules)
          → IsDistinct bytes_eq (keys_of (plain_modules texts tuples modules)) → AreRegisteredParts saved_as
      registered are titles distinct = record {
        modules = All-from_recursion (IsAt saved_as AModule) saved_as.modules (are_modules modules.entries are);
        once = λ i j m n lt e f same_name.
            let a = get_map (registered_part (place_in heap)) modules.entries i m e in
            let b = get_map (registered_part (place_in heap)) modules.entries j n f in
            let first = registered_as a.0.object.cell _ (titled_at modules.entries titles i a.0 a.1) in
            let second = registered_as b.0.object.cell _ (titled_at modules.entries titles j b.0 b.1) in
            differ modules.entries distinct i j a.0 b.0 lt a.1 b.1
            (some_is _ _ (sym first ∙ (ap (registered_name saved_as) a.2 ∙ (same_name ∙ (ap (registered_name saved_as) (sym b.2) ∙ second)))));
      }

-- frames
-- ======

module _ (shelf : Shelf) (heap : Heap Value ℕ) (modules : Registry) (calls : List Call) (paid : ℕ) where
  as_many : length (saved_as shelf heap modules calls paid).frames ≡ length calls
  as_many = length-map (reverse calls) (frame_part shelf (place_in heap)) ∙ length-reverse calls

  pub some_parts : 0 < length calls → 0 < length (saved_as shelf heap modules calls paid).frames
  some_parts lt = let a = as_many in omega (arith, a, lt)

  pub few_parts : length calls ≤ MAX_CALLS → length (saved_as shelf heap modules calls paid).frames ≤ MAX_CALLS
  few_parts le = subst (λ k. k ≤ MAX_CALLS) (sym as_many) le

-- a machine
-- =========

module _ (shelf : Shelf) (vm : Vm) (p : Program) where
  pub has_room : IsSaved shelf vm → Gathered p vm → HasRoom (saved_as shelf vm.arena vm.modules vm.frames.calls vm.paid)
  has_room saved g =
      room shelf vm.arena vm.modules vm.frames.calls vm.paid p.tables.texts p.tables.tuples g.sound.heap.cells g.bytes.held saved.within.cells saved.within.bytes saved.within.few_cells saved.within.few_bytes

  pub has_modules : IsProgramOf shelf p → RunsProgram p vm → Gathered p vm → AreRegisteredParts (saved_as shelf vm.arena vm.modules vm.frames.calls vm.paid)
  has_modules program runs g =
      registered shelf vm.arena vm.modules vm.frames.calls vm.paid p.tables.texts p.tables.tuples
      (program.means.constants.texts ∙ ap text_at program.shelf_is) (modules_titled (world_in p vm some_world) g.sound.titles) g.sound.titles runs.registered.own.once
