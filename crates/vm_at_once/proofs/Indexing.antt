-- The item of a list that a whole number names, which is read or set.
use Rattle.std.proofs.Common.{◌≡◌, ℕ, ℤ, ◌<◌, List, length, map, set, Option, Some, slice_get, Ok, refl, sym, ap, subst, ◌∙◌}
use Rattle.std.specs.Option.{option_map}
use Rattle.std.proofs.lemmas.List.{length-map, map-set}
use Rattle.std.proofs.lemmas.List.Elements.{All-set}
use Rattle.std.proofs.lemmas.Option.{slice_get-map}
use Rattle.state_values.specs.mpy_base.World.{Heap, Later, ListObject, AList, items_at, room_at, with_list, object}
use Rattle.state_values.specs.mpy_base.Val.{Val, Nil, Int, At}
use Rattle.state_values.specs.prim_assignments.arena_heap.declared.value.Value.{Value}
use Rattle.state_values.specs.prim_assignments.arena_heap.declared.value.Value.TheVariants as values
use Rattle.state_values.specs.prim_assignments.arena_heap.declared.value.ListNo.{ListNo}
use Rattle.state_values.specs.prim_assignments.arena_heap.declared.value.StrNo.{StrNo}
use Rattle.state_values.specs.prim_assignments.arena_heap.declared.value.ConstNo.{ConstNo}
use Rattle.state_values.specs.prim_assignments.arena_heap.Values.{Leads}
use Rattle.state_values.specs.prim_assignments.arena_heap.Constants.{IsTold}
use Rattle.state_values.specs.prim_assignments.arena_objects.Keys.{AllTold}
use Rattle.state_values.proofs.prim_assignments_lemmas.arena_objects_lemmas.Gifts.{read_item}
use Rattle.state_values.proofs.prim_assignments_lemmas.arena_objects_lemmas.Tolds.{held_list}
use Rattle.state_values.specs.bc_progress.bc_ops.declared.instr.Op.TheVariants as ops
use Rattle.state_values.specs.bc_progress.bc_ops.declared.instr.Instr.TheVariants as instrs
use Rattle.state_values.specs.bc_progress.py_values.Shown.{PlainHeap, Shown, Items, shown}
use Rattle.state_values.specs.bc_progress.py_primitives.Iterables.{place_at, shown_length, shown_item, item_of, or_nil}
use Rattle.state_values.specs.bc_progress.py_primitives.Outcome.{Outcome, gives}
use Rattle.state_values.specs.bc_progress.py_primitives.Uses.{at_found, get_item, set_item, set_shown, shown_at}
use Rattle.state_values.specs.py_effects.Effect.{on_heap}
use Rattle.state_values.specs.bc_progress.bc_machine.Library.{Plain}
use Rattle.state_values.specs.prim_assignments.prim_walks.Plain.{plain, plain_heap}
use Rattle.state_values.specs.prim_assignments.prim_faults.Outcomes.{IsOutcome}
use Rattle.state_values.proofs.prim_assignments_lemmas.prim_faults_lemmas.Heaps.{list_put}
use Rattle.state_values.proofs.prim_assignments_lemmas.prim_faults_lemmas.Outcomes.{answered, gives_outcome}
use Rattle.state_values.specs.prim_assignments.prim_faults.Sights.{world_over}
use Rattle.state_values.specs.vm_frames.declared.slot.Slot.TheVariants as slots
use Rattle.state_values.specs.vm_frames.Calls.{Call, Calls, on_running}
use Rattle.state_values.specs.vm_frames.Views.{starts_of, frame_of}
use Rattle.state_values.specs.frame_moves.Shown.{view_of}
use Rattle.state_values.proofs.frame_moves_lemmas.Stepping.{both}
use Rattle.state_values.proofs.prim_assignments_lemmas.prim_operators_lemmas.IndexUses.{list_shown}
use Rattle.state_values.proofs.prim_assignments_lemmas.prim_operators_lemmas.ItemFills.{told_put}
use Rattle.state_values.proofs.prim_assignments_lemmas.ItemUses.{set_list}
use Rattle.state_values.specs.frame_values.Effects.{tables_of, Steps, Leaves}
use Rattle.state_values.specs.frame_values.Slots.{HasValue, Puts, with_value, without}
use Rattle.state_values.proofs.frame_values_lemmas.Items as items
use Rattle.state_values.proofs.frame_values_lemmas.Settling.{of_outcome, puts_steps, takes_steps}
use Rattle.state_values.proofs.frame_values_lemmas.Visits.{get_item_free, set_item_free}

module _ (texts : StrNo → Option (List ℕ)) (tuples : ConstNo → Option (List Value)) (heap : Heap Value ℕ) where
  abbrev P : PlainHeap
  P = plain_heap texts tuples heap

  -- what a list has at a place
  module _ (l : ListNo) (leads : Leads heap.objects (values.List l)) where
    abbrev O : Val
    O = plain texts tuples (values.List l)

    abbrev xs : List Val
    xs = map (plain texts tuples) (items_at heap l.cell)

    shows : shown P O ≡ Items xs
    shows = list_shown texts tuples heap (values.List l) l refl leads

    count : shown_length (shown P O) ≡ length (items_at heap l.cell)
    count = ap shown_length shows ∙ length-map (items_at heap l.cell) (plain texts tuples)

    item_is : (at : ℕ) (v : Value) → slice_get (items_at heap l.cell) at ≡ Some v → item_of P O at ≡ gives (plain texts tuples v) P
    item_is at v e =
        ap (shown_item P at) shows
        ∙ ap (λ (o : Option Val). gives (or_nil o) P) (slice_get-map (plain texts tuples) (items_at heap l.cell) at ∙ ap (λ (o : Option Value). option_map (plain texts tuples) o) e)

    got : (number : ℤ) (at : ℕ) (v : Value) → place_at (length (items_at heap l.cell)) number ≡ Some at → slice_get (items_at heap l.cell) at ≡ Some v → get_item P O (Int number) ≡ gives (plain texts tuples v) P
    got number at v place e =
        let found : shown_at P O (Int number) (Items xs) ≡ item_of P O at =
        ap (λ (n : ℕ). at_found P O (place_at n number) (item_of P O)) count
        ∙ ap (λ (o : Option ℕ). at_found P O o (item_of P O)) place in
        ap (λ (s : Shown). shown_at P O (Int number) s) shows ∙ (found ∙ item_is at v e)

    pub item_outcome : (number : ℤ) (at : ℕ) (v : Value) → AllTold texts tuples heap.objects → Leads heap.objects v → place_at (length (items_at heap l.cell)) number ≡ Some at → slice_get (items_at heap l.cell) at ≡ Some v
        → IsOutcome texts tuples heap heap (Ok v) (get_item P O (plain texts tuples (values.Int number)))
    item_outcome number at v all leads_v place e =
        gives_outcome texts tuples heap v (get_item P O (plain texts tuples (values.Int number))) all leads_v
        (read_item (IsTold texts tuples) (items_at heap l.cell) at v e (held_list (IsTold texts tuples) (object heap.objects l.cell) leads.meets (all.told l.cell)))
        (got number at v place e)

    -- a value was put at a place
    module _ (new : Heap Value ℕ) (at : ℕ) (v : Value) (within : at < length (items_at heap l.cell)) (all : AllTold texts tuples heap.objects) (told : IsTold texts tuples v)
        (later : Later heap.objects new.objects) (put : new ≡ with_list heap l.cell (set (items_at heap l.cell) at v)) where
      behind : with_list P l.cell (set xs at (plain texts tuples v)) ≡ plain_heap texts tuples new
      behind =
          ap (λ (z : List Val). with_list P l.cell z) (sym (map-set (plain texts tuples) (items_at heap l.cell) at v))
          ∙ (sym (list_put texts tuples heap l.cell (set (items_at heap l.cell) at v)) ∙ sym (ap (plain_heap texts tuples) put))

      told_new : AllTold texts tuples new.objects
      told_new =
          subst (λ (w : Heap Value ℕ). AllTold texts tuples w.objects) (sym put)
          (told_put texts tuples heap l.cell AList leads.meets all (ListObject (set (items_at heap l.cell) at v) (room_at heap l.cell))
          (All-set (IsTold texts tuples) (items_at heap l.cell) at v told (held_list (IsTold texts tuples) (object heap.objects l.cell) leads.meets (all.told l.cell))))

      pub set_outcome : (number : ℤ) → place_at (length (items_at heap l.cell)) number ≡ Some at → IsOutcome texts tuples heap new (Ok values.None) (set_item P O (Int number) (plain texts tuples v))
      set_outcome number place =
          let next : ℕ → Outcome Val = λ k. gives Nil (with_list P l.cell (set xs k (plain texts tuples v))) in
          let found : set_shown P (At l.cell) (Int number) (plain texts tuples v) (Items xs) ≡ next at =
          ap (λ (n : ℕ). at_found P O (place_at n number) next) count ∙ ap (λ (o : Option ℕ). at_found P O o next) place in
          answered texts tuples heap new values.None (set_item P O (Int number) (plain texts tuples v)) later told_new (record { meets = tt; small = tt }) tt
          (set_list texts tuples heap (values.List l) l (Int number) (plain texts tuples v) refl leads ∙ (found ∙ ap (λ (w : PlainHeap). gives Nil w) behind))

  -- STORE_SUBSCR with what it sets
  module _ (new_heap : Heap Value ℕ) (old new : Calls) (end : ℕ) (object index v : Value)
      (given : IsOutcome texts tuples heap new_heap (Ok values.None) (set_item P (plain texts tuples object) (plain texts tuples index) (plain texts tuples v)))
      (at_index : HasValue 0 index old.calls) (at_object : HasValue 1 object old.calls) (at_value : HasValue 2 v old.calls) (moved : new ≡ on_running (without end 3) old) where
    abbrev Top : Call → Type 0
    Top d = slice_get d.slots 0 ≡ Some (slots.Value index)

    abbrev Second : Call → Type 0
    Second d = slice_get d.slots 1 ≡ Some (slots.Value object)

    abbrev Third : Call → Type 0
    Third d = slice_get d.slots 2 ≡ Some (slots.Value v)

    pub sets : Steps texts tuples (Plain (instrs.Plain ops.StoreSubscr)) 0 end heap new_heap old.calls new.calls (Ok tt)
    sets =
        takes_steps texts tuples end 3 heap new_heap old new (Ok tt) (Ok values.None) 0 (λ w. on_heap w (set_item w.heap (plain texts tuples object) (plain texts tuples index) (plain texts tuples v)))
        (of_outcome texts tuples heap new_heap (Ok values.None) 0 (λ h. set_item h (plain texts tuples object) (plain texts tuples index) (plain texts tuples v)) given
        (set_item_free P (plain texts tuples object) (plain texts tuples index) (plain texts tuples v)))
        (Plain (instrs.Plain ops.StoreSubscr)) (λ (d : Call). Top d × (Second d × Third d))
        (both Top (λ (d : Call). Second d × Third d) old.calls at_index (both Second Third old.calls at_object at_value))
        (λ layout library place paid d frames w h.
        let view = view_of (tables_of texts tuples layout) in
        items.store_subscr view (starts_of view d) library place paid (frame_of view d) frames (world_over texts tuples w heap) d.slots index object v h.0 h.1.0 h.1.1)
        (refl, moved)

    pub leaves : Leaves texts tuples heap new_heap (Ok tt)
    leaves = record { later = given.later; all_told = given.all_told; stop = tt }

  -- LOAD_SUBSCR with what it gives
  module _ (old new : Calls) (end : ℕ) (object index v : Value) (given : IsOutcome texts tuples heap heap (Ok v) (get_item P (plain texts tuples object) (plain texts tuples index)))
      (at_object : HasValue 1 object old.calls) (at_index : HasValue 0 index old.calls) (moved : new ≡ on_running (with_value end 2 v) old) where
    pub steps : Steps texts tuples (Plain (instrs.Plain ops.LoadSubscr)) 0 end heap heap old.calls new.calls (Ok tt)
    steps =
        puts_steps texts tuples end 2 heap heap old new (Ok tt) (Ok v) 0 (λ w. on_heap w (get_item w.heap (plain texts tuples object) (plain texts tuples index)))
        (of_outcome texts tuples heap heap (Ok v) 0 (λ h. get_item h (plain texts tuples object) (plain texts tuples index)) given (get_item_free P (plain texts tuples object) (plain texts tuples index)))
        (Plain (instrs.Plain ops.LoadSubscr))
        (λ (d : Call). (slice_get d.slots 0 ≡ Some (slots.Value index)) × (slice_get d.slots 1 ≡ Some (slots.Value object)))
        (both (λ (d : Call). slice_get d.slots 0 ≡ Some (slots.Value index)) (λ (d : Call). slice_get d.slots 1 ≡ Some (slots.Value object)) old.calls at_index at_object)
        (λ layout library place paid d frames w h.
        let view = view_of (tables_of texts tuples layout) in
        items.load_subscr view (starts_of view d) library place paid (frame_of view d) frames (world_over texts tuples w heap) d.slots index object h.0 h.1)
        (refl, moved)

    pub puts : Puts texts tuples heap.objects (with_value end 2) old new (Ok tt)
    puts = (v, given.known, moved)
