-- An object of a snapshot is filled, where those before it are.
use Rattle.std.proofs.Common.{◌≡◌, ℕ, zero, suc, ◌≤◌, List, [], ◌∷◌, length, map, replicate, Option, Some, None, slice_get, sym, ap, ◌∙◌, subst, All}
use Rattle.std.specs.Prelude.{IsSome, option_and_then}
use Rattle.std.specs.Option.{option_map}
use Rattle.std.proofs.lemmas.List.{length-map}
use Rattle.std.proofs.lemmas.List.Elements.{All-head, All-tail}
use Rattle.mpy_base.specs.World.{Heap, ListObject, TupleObject, DictObject, object, room_of, room_at, with_object, with_list, with_tuple, with_dict}
use Rattle.arena_heap.specs.declared.value.Value.{Value}
use Rattle.arena_heap.specs.declared.value.Value.TheVariants as values
use Rattle.arena_heap.specs.Values.{ArenaObject, IsKey, Leads}
use Rattle.bc_library.specs.bc_verify.qstr_pool.declared.table.TheConstants.{FIRST_OWN}
use Rattle.bc_library.specs.Shelf.{Shelf}
use Rattle.snap_grammar.specs.declared.parts.ValuePart.{ValuePart}
use Rattle.snap_grammar.specs.declared.parts.ValuePart.TheVariants as parts
use Rattle.snap_grammar.specs.declared.parts.PairPart.{PairPart}
use Rattle.snap_grammar.specs.declared.parts.ObjectPart.{ObjectPart}
use Rattle.snap_grammar.specs.declared.parts.ObjectPart.TheVariants as objects
use Rattle.snap_grammar.specs.declared.parts.Snapshot.{Snapshot}
use Rattle.snap_grammar.specs.Spelling.{IsValue, IsPair, IsObject, Fits}
use Rattle.snap_states.specs.Parts.{cell_of}
use Rattle.vm_starting.specs.vm_states.bc_progress.py_values.Keys.{TextKey}
use Rattle.snap_states.specs.States.{bytes_in_part, key_of_part, IsPlain, IsFinePair, AreFineObjects}
use Rattle.snap_states.specs.Decoded.{value_of, pair_of, reference, object_of}
use Rattle.snap_loading.specs.Mixed.{heap_mixed, IsFilledTo}
use Rattle.snap_loading.specs.Shells.{shell_of}
use Rattle.snap_loading.proofs.Hollowing.{recursion_get}
use Rattle.snap_loading.proofs.Knowing.{value_leads}
use Rattle.snap_loading.proofs.Mixing.{mixed_kinds, next_at, next_filled, next_whole}

all_get : {A : Type 0} (P : A → Type 0) (xs : List A) (i : ℕ) (x : A) → All P xs → slice_get xs i ≡ Some x → P x
all_get P [] i x h e = absurd cc
all_get P (y ∷ xs) zero x h e = let same : y ≡ x = cc in subst P same (All-head P y xs h)
all_get P (y ∷ xs) (suc i) x h e = all_get P xs i x (All-tail P y xs h) e

module _ (shelf : Shelf) (s : Snapshot) where
  -- keys
  -- ====

  reference_key : (r : Option ObjectPart) (cell : ℕ) → IsSome (option_map TextKey (option_and_then bytes_in_part r)) → IsKey (reference r cell)
  reference_key (Some (objects.Text bytes)) cell h = tt
  reference_key None cell h = tt
  reference_key (Some (objects.List room items)) cell h = absurd cc
  reference_key (Some (objects.Dict room pairs)) cell h = absurd cc
  reference_key (Some (objects.Tuple items)) cell h = absurd cc
  reference_key (Some (objects.Function m code names defaults)) cell h = absurd cc
  reference_key (Some (objects.Exception kind args file line name)) cell h = absurd cc
  reference_key (Some (objects.Method o method)) cell h = absurd cc
  reference_key (Some (objects.Range start stop step)) cell h = absurd cc
  reference_key (Some (objects.Module name names)) cell h = absurd cc

  is_key : (v : ValuePart) → IsSome (key_of_part s v) → IsKey (value_of shelf s v)
  is_key parts.None h = tt
  is_key parts.False h = tt
  is_key parts.True h = tt
  is_key (parts.Int z) h = tt
  is_key (parts.Object number) h = reference_key (slice_get s.objects number) (cell_of s.objects number) h
  is_key (parts.Str text) h = tt
  is_key (parts.Fixed m n) h = absurd cc
  is_key parts.Empty h = absurd cc
  is_key (parts.Named name) h = absurd cc

  -- what is to be filled
  -- ====================

  module _ (is_first : shelf.pool.first ≡ FIRST_OWN) (fits : Fits s) (fine : AreFineObjects shelf s) (h : Heap Value ℕ) (i : ℕ) (filled : IsFilledTo shelf s i h) where
    part_leads : (v : ValuePart) → IsPlain shelf s v → IsValue v → Leads h.objects (value_of shelf s v)
    part_leads v plain is =
        subst (λ (w : Heap Value ℕ). Leads w.objects (value_of shelf s v)) (sym filled.1)
        (value_leads shelf s filled.0 is_first (heap_mixed shelf s filled.0 i).objects (mixed_kinds shelf s filled.0 i) v plain is)

    object_fits : (o : ObjectPart) → slice_get s.objects i ≡ Some o → IsObject o
    object_fits o e = recursion_get IsObject s.objects i o fits.objects.1 e

    lies : (o : ObjectPart) → slice_get s.objects i ≡ Some o → object h.objects (cell_of s.objects i) ≡ Some (shell_of shelf s filled.0 o)
    lies o e = ap (λ (w : Heap Value ℕ). object w.objects (cell_of s.objects i)) filled.1 ∙ next_at shelf s filled.0 i o e

    module _ (room : ℕ) (items : List ValuePart) (e : slice_get s.objects i ≡ Some (objects.List room items)) where
      pub list_few : length items ≤ 4194304
      list_few = (object_fits (objects.List room items) e).1.0

      pub list_begun : object h.objects (cell_of s.objects i) ≡ Some (ListObject [] (room_at h (cell_of s.objects i)))
      list_begun = let there : object h.objects (cell_of s.objects i) ≡ Some (ListObject [] room) = lies (objects.List room items) e in there ∙ ap (λ r. Some (ListObject [] r)) (sym (ap room_of there))

      pub list_room : length items ≤ room_at h (cell_of s.objects i)
      list_room =
          let there : object h.objects (cell_of s.objects i) ≡ Some (ListObject [] room) = lies (objects.List room items) e in
          subst (λ r. length items ≤ r) (sym (ap room_of there)) (fine i (objects.List room items) e).0.holds

      pub list_leads : (at : ℕ) (part : ValuePart) → slice_get items at ≡ Some part → Leads h.objects (value_of shelf s part)
      list_leads at part g =
          part_leads part (all_get (IsPlain shelf s) items at part (fine i (objects.List room items) e).1 g)
          (recursion_get IsValue items at part (object_fits (objects.List room items) e).1.1 g)

    module _ (items : List ValuePart) (e : slice_get s.objects i ≡ Some (objects.Tuple items)) where
      pub tuple_few : length items ≤ 4194304
      tuple_few = (object_fits (objects.Tuple items) e).0

      pub tuple_begun : object h.objects (cell_of s.objects i) ≡ Some (TupleObject (replicate (length items) values.None))
      tuple_begun = lies (objects.Tuple items) e ∙ ap (λ k. Some (TupleObject (replicate k values.None))) (length-map items (value_of shelf s))

      pub tuple_leads : (at : ℕ) (part : ValuePart) → slice_get items at ≡ Some part → Leads h.objects (value_of shelf s part)
      tuple_leads at part g =
          part_leads part (all_get (IsPlain shelf s) items at part (fine i (objects.Tuple items) e).1 g)
          (recursion_get IsValue items at part (object_fits (objects.Tuple items) e).1 g)

    module _ (room : ℕ) (pairs : List PairPart) (e : slice_get s.objects i ≡ Some (objects.Dict room pairs)) where
      pub dict_few : length pairs ≤ 4194304
      dict_few = (object_fits (objects.Dict room pairs) e).1.0

      pub dict_begun : object h.objects (cell_of s.objects i) ≡ Some (DictObject [] (room_at h (cell_of s.objects i)))
      dict_begun = let there : object h.objects (cell_of s.objects i) ≡ Some (DictObject [] room) = lies (objects.Dict room pairs) e in there ∙ ap (λ r. Some (DictObject [] r)) (sym (ap room_of there))

      pub dict_room : length pairs ≤ room_at h (cell_of s.objects i)
      dict_room =
          let there : object h.objects (cell_of s.objects i) ≡ Some (DictObject [] room) = lies (objects.Dict room pairs) e in
          subst (λ r. length pairs ≤ r) (sym (ap room_of there)) (fine i (objects.Dict room pairs) e).has.holds

      fine_pair : (at : ℕ) (part : PairPart) → slice_get pairs at ≡ Some part → IsFinePair shelf s part
      fine_pair at part g = all_get (IsFinePair shelf s) pairs at part (fine i (objects.Dict room pairs) e).fine g

      small_pair : (at : ℕ) (part : PairPart) → slice_get pairs at ≡ Some part → IsPair part
      small_pair at part g = recursion_get IsPair pairs at part (object_fits (objects.Dict room pairs) e).1.1 g

      pub dict_keys : (at : ℕ) (part : PairPart) → slice_get pairs at ≡ Some part → IsKey (value_of shelf s part.key)
      dict_keys at part g = is_key part.key (fine_pair at part g).is_key

      pub dict_keys_lead : (at : ℕ) (part : PairPart) → slice_get pairs at ≡ Some part → Leads h.objects (value_of shelf s part.key)
      dict_keys_lead at part g = part_leads part.key (fine_pair at part g).key (small_pair at part g).0

      pub dict_leads : (at : ℕ) (part : PairPart) → slice_get pairs at ≡ Some part → Leads h.objects (value_of shelf s part.value)
      dict_leads at part g = part_leads part.value (fine_pair at part g).value (small_pair at part g).1

  -- it is filled
  -- ============

  module _ (title : ℕ → ℕ → ℕ) (h new : Heap Value ℕ) (i : ℕ) (begun : h ≡ heap_mixed shelf s title i) where
    pub list_done : (room : ℕ) (items : List ValuePart) → slice_get s.objects i ≡ Some (objects.List room items) → new ≡ with_list h (cell_of s.objects i) (map (value_of shelf s) items) → new ≡ heap_mixed shelf s title (suc i)
    list_done room items e done =
        done
        ∙ (ap (λ (w : Heap Value ℕ). with_list w (cell_of s.objects i) (map (value_of shelf s) items)) begun
        ∙ (ap (λ (r : Option ArenaObject). with_object (heap_mixed shelf s title i) (cell_of s.objects i) (ListObject (map (value_of shelf s) items) (room_of r))) (next_at shelf s title i (objects.List room items) e)
        ∙ next_filled shelf s title i (objects.List room items) e))

    pub dict_done : (room : ℕ) (pairs : List PairPart) → slice_get s.objects i ≡ Some (objects.Dict room pairs) → new ≡ with_dict h (cell_of s.objects i) (map (pair_of shelf s) pairs) → new ≡ heap_mixed shelf s title (suc i)
    dict_done room pairs e done =
        done
        ∙ (ap (λ (w : Heap Value ℕ). with_dict w (cell_of s.objects i) (map (pair_of shelf s) pairs)) begun
        ∙ (ap (λ (r : Option ArenaObject). with_object (heap_mixed shelf s title i) (cell_of s.objects i) (DictObject (map (pair_of shelf s) pairs) (room_of r))) (next_at shelf s title i (objects.Dict room pairs) e)
        ∙ next_filled shelf s title i (objects.Dict room pairs) e))

    pub tuple_done : (items : List ValuePart) → slice_get s.objects i ≡ Some (objects.Tuple items) → new ≡ with_tuple h (cell_of s.objects i) (map (value_of shelf s) items) → new ≡ heap_mixed shelf s title (suc i)
    tuple_done items e done =
        done
        ∙ (ap (λ (w : Heap Value ℕ). with_tuple w (cell_of s.objects i) (map (value_of shelf s) items)) begun
        ∙ next_filled shelf s title i (objects.Tuple items) e)

    pub whole_done : (o : ObjectPart) → slice_get s.objects i ≡ Some o → shell_of shelf s title o ≡ object_of shelf s title o → new ≡ h → new ≡ heap_mixed shelf s title (suc i)
    whole_done o e same done = done ∙ (begun ∙ next_whole shelf s title i o e same)
