-- Iterators that begin and go on.
use Rattle.std.proofs.Common.{◌≡◌, ℕ, suc, ◌<◌, ◌≤◌, List, [], ◌∷◌, length, drop, Bool, true, false, Option, Some, Result, Ok, slice_get, refl, sym, ap, ◌∙◌, subst, arith}
use Rattle.std.specs.Prelude.{nat_lt, IsSome}
use Rattle.std.proofs.lemmas.Bool.{lt-ltb, le-ltb}
use Rattle.std.proofs.lemmas.Option.{same_Some}
use Rattle.frame_moves.specs.mpy_base.World.{Heap}
use Rattle.frame_moves.specs.mpy_base.Val.{Val, PlainWorld}
use Rattle.prim_names.specs.arena_heap.declared.value.Value.{Value}
use Rattle.prim_names.specs.arena_heap.declared.value.Value.TheVariants as values
use Rattle.prim_names.specs.arena_heap.declared.value.StrNo.{StrNo}
use Rattle.prim_names.specs.arena_heap.declared.value.ConstNo.{ConstNo}
use Rattle.frame_moves.specs.bc_ops.declared.instr.Op.TheVariants as ops
use Rattle.frame_moves.specs.bc_ops.declared.instr.Instr.TheVariants as instrs
use Rattle.prim_names.specs.prim_types.py_values.Shown.{PlainHeap, Shown, Text, Tuple, Items, Pairs, Range, shown, truth}
use Rattle.prim_names.specs.prim_types.py_primitives.Iterables.{use_iter, item_of, length_of, shown_length, shown_items, items_in}
use Rattle.frame_moves.specs.py_effects.Effect.{Place, on_heap}
use Rattle.prim_names.specs.prim_walks.Plain.{plain, plain_heap}
use Rattle.prim_names.specs.prim_faults.declared.stop.Stop.{Stop}
use Rattle.prim_names.specs.prim_faults.Sights.{world_over}
use Rattle.frame_moves.specs.vm_frames.declared.slot.Slot.{Slot}
use Rattle.frame_moves.specs.vm_frames.declared.slot.Slot.TheVariants as slots
use Rattle.frame_moves.specs.vm_frames.Calls.{Call, Calls, OfRunning, on_running}
use Rattle.frame_moves.specs.bc_labels.Positions.{position_in}
use Rattle.frame_moves.specs.vm_frames.Views.{View, slots_of, starts_of, position_of, frame_of}
use Rattle.frame_moves.specs.bc_machine.Library.{Plain, Jumps, Library}
use Rattle.frame_moves.specs.bc_machine.State as states
use Rattle.frame_moves.specs.bc_machine.State.{State, Running, go}
use Rattle.frame_moves.specs.bc_machine.Parts.{iter_on}
use Rattle.frame_moves.specs.bc_machine.Step as step
use Rattle.frame_moves.specs.bc_machine.Step.{item_step}
use Rattle.frame_moves.specs.Shown.{view_of, Tests}
use Rattle.frame_moves.proofs.Stepping.{both, goes_to, steps_by}
use Rattle.frame_values.specs.Slots.{HasValue, IsIterator, iterator_over, with_iterator, with_item, without}
use Rattle.frame_values.specs.Settled.{Settles}
use Rattle.frame_values.specs.Effects.{Layout, tables_of, Steps, JumpSteps}
use Rattle.frame_values.proofs.Items.{on_one}
use Rattle.frame_values.proofs.Settling.{Answers, does}

abbrev over_in : Slot → Value
over_in (slots.Iter over at part) = over
over_in _ = values.None

abbrev at_in : Slot → ℕ
at_in (slots.Iter over at part) = at
at_in _ = 0

on_four : (P : List Slot → Type 0) (st : List Slot) (a : Slot) → 4 ≤ length st → slice_get st 0 ≡ Some a → ((b c d : Slot) → P (a ∷ b ∷ c ∷ d ∷ drop 4 st)) → P st
on_four P [] a there e h = absurd (omega (arith, there))
on_four P (x ∷ []) a there e h = absurd (omega (arith, there))
on_four P (x ∷ y ∷ []) a there e h = absurd (omega (arith, there))
on_four P (x ∷ y ∷ z ∷ []) a there e h = absurd (omega (arith, there))
on_four P (x ∷ y ∷ z ∷ u ∷ st) a there e h = subst (λ (s : Slot). P (s ∷ y ∷ z ∷ u ∷ st)) (sym (same_Some x a e)) (h y z u)

module _ (view : View) (starts : List ℕ) (library : Library) (place : Place) (paid : ℕ) (frame : states.Frame) (frames : List states.Frame) (w : PlainWorld) where
  begun : (st : List Slot) (v : Value) → slice_get st 0 ≡ Some (slots.Value v)
      → step.plain_step library place paid frame frames w ops.GetIterStack (slots_of view starts st)
      ≡ step.does library place paid frame frames w (on_heap w (use_iter w.heap (view.plain v))) (λ over. step.next library place paid frame frames w (iter_on over 0 (slots_of view starts (drop 1 st))))
  begun st v e =
      on_one (λ z. step.plain_step library place paid frame frames w ops.GetIterStack (slots_of view starts z)
      ≡ step.does library place paid frame frames w (on_heap w (use_iter w.heap (view.plain v))) (λ over. step.next library place paid frame frames w (iter_on over 0 (slots_of view starts (drop 1 z))))) st (slots.Value v) e refl

  abbrev Advanced : ℕ → List Slot → State
  Advanced p st = step.jump_step library place paid frame frames w ops.ForIter p (slots_of view starts st)

  abbrev Branches : Bool → ℕ → Value → ℕ → List Slot → State
  Branches more p over at st = step.next_item library place paid frame frames w more p (view.plain over) at (slots_of view starts st)

  branched : (p : ℕ) (st : List Slot) (over : Value) (at part : ℕ) → 4 ≤ length st → slice_get st 0 ≡ Some (slots.Iter over at part)
      → Advanced p st ≡ Branches (nat_lt at (length_of w.heap (view.plain over))) p over at (drop 4 st)
  branched p st over at part there e =
      on_four (λ z. Advanced p z ≡ Branches (nat_lt at (length_of w.heap (view.plain over))) p over at (drop 4 z)) st (slots.Iter over at part) there e (λ b c d. refl)

  pub item_there : (p : ℕ) (st : List Slot) (over : Value) (at part : ℕ) → 4 ≤ length st → slice_get st 0 ≡ Some (slots.Iter over at part) → at < length_of w.heap (view.plain over)
      → Advanced p st ≡ Branches true p over at (drop 4 st)
  item_there p st over at part there e less = branched p st over at part there e ∙ ap (λ (b : Bool). Branches b p over at (drop 4 st)) (lt-ltb at (length_of w.heap (view.plain over)) less)

  pub item_absent : (p : ℕ) (st : List Slot) (over : Value) (at part : ℕ) → 4 ≤ length st → slice_get st 0 ≡ Some (slots.Iter over at part) → length_of w.heap (view.plain over) ≤ at
      → Advanced p st ≡ Branches false p over at (drop 4 st)
  item_absent p st over at part there e less = branched p st over at part there e ∙ ap (λ (b : Bool). Branches b p over at (drop 4 st)) (le-ltb at (length_of w.heap (view.plain over)) less)

module _ (texts : StrNo → Option (List ℕ)) (tuples : ConstNo → Option (List Value)) (end : ℕ) (old new : Calls) (result : Result (Unit {0}) Stop) where
  abbrev Next : Layout → Call → Type 0
  Next layout c = let view = view_of (tables_of texts tuples layout) in position_in (starts_of view c) end ≡ suc (position_of view c)

  -- GET_ITER_STACK
  module _ (heap : Heap Value ℕ) (v : Value) (given : Result Value Stop) (answers : Answers texts tuples heap heap given 0 (λ w. on_heap w (use_iter w.heap (plain texts tuples v)))) where
    abbrev Has : Call → Type 0
    Has c = slice_get c.slots 0 ≡ Some (slots.Value v)

    pub begins : OfRunning Has old.calls → Settles (with_iterator end) given old new result → Steps texts tuples (Plain (instrs.Plain ops.GetIterStack)) 0 end heap heap old.calls new.calls result
    begins p settled layout next =
        let view = view_of (tables_of texts tuples layout) in
        does texts tuples (with_iterator end) old new result layout (Plain (instrs.Plain ops.GetIterStack)) 0 heap heap (λ c. Has c × Next layout c) (λ w. on_heap w (use_iter w.heap (plain texts tuples v)))
        (λ c frames over w. go (suc (position_of view c)) (iter_on over 0 (slots_of view (starts_of view c) (drop 1 c.slots))) (frame_of view c).entries (frame_of view c) frames w)
        (λ library place paid c frames w h. begun view (starts_of view c) library place paid (frame_of view c) frames (world_over texts tuples w heap) c.slots v h.0)
        (λ over c frames w h. goes_to view c (suc (position_of view c)) end (iterator_over over 0 (drop 1 c.slots)) frames w h.1)
        given answers (both Has (Next layout) old.calls p next) settled

  -- FOR_ITER
  module _ (target : ℕ) (over : Value) (at part : ℕ) where
    abbrev There : Call → Type 0
    There c = (4 ≤ length c.slots) × (slice_get c.slots 0 ≡ Some (slots.Iter over at part))

    pub advances : (before behind : Heap Value ℕ) (given : Result Value Stop) → Answers texts tuples before behind given 0 (λ w. on_heap w (item_of w.heap (plain texts tuples over) at))
        → at < length_of (plain_heap texts tuples before) (plain texts tuples over) → OfRunning There old.calls → Settles (with_item end over (suc at)) given old new result
        → JumpSteps texts tuples (Jumps ops.ForIter) target end before behind old.calls new.calls result
    advances before behind given answers less p settled layout position is_at next =
        let view = view_of (tables_of texts tuples layout) in
        does texts tuples (with_item end over (suc at)) old new result layout (Jumps ops.ForIter position) 0 before behind (λ c. There c × Next layout c) (λ w. on_heap w (item_of w.heap (plain texts tuples over) at))
        (λ c frames v w. go (suc (position_of view c)) (states.Value v ∷ iter_on (plain texts tuples over) (suc at) (slots_of view (starts_of view c) (drop 4 c.slots))) (frame_of view c).entries (frame_of view c) frames w)
        (λ library place paid c frames w h. item_there view (starts_of view c) library place paid (frame_of view c) frames (world_over texts tuples w before) position c.slots over at part h.0.0 h.0.1 less)
        (λ v c frames w h. goes_to view c (suc (position_of view c)) end (slots.Value v ∷ iterator_over over (suc at) (drop 4 c.slots)) frames w h.1)
        given answers (both There (Next layout) old.calls p next) settled

    pub ends : (heap : Heap Value ℕ) → length_of (plain_heap texts tuples heap) (plain texts tuples over) ≤ at → OfRunning There old.calls → new ≡ on_running (without target 4) old
        → JumpSteps texts tuples (Jumps ops.ForIter) target end heap heap old.calls new.calls (Ok tt)
    ends heap less p moved layout position is_at next =
        let tables = tables_of texts tuples layout in
        let view = view_of tables in
        let At : Call → Type 0 = λ (c : Call). position_in (starts_of view c) target ≡ position in
        record {
          pays = λ library place paid w none. absurd (omega (arith, none));
          steps = λ library place paid w enough.
              steps_by tables (world_over texts tuples w heap) (Jumps ops.ForIter position) (without target 4) (λ c. There c × At c)
              (λ lib pl pd c frames h. item_absent view (starts_of view c) lib pl pd (frame_of view c) frames (world_over texts tuples w heap) position c.slots over at part h.0.0 h.0.1 less
              ∙ goes_to view c position target (drop 4 c.slots) frames (world_over texts tuples w heap) h.1)
              old new moved (both There At old.calls p is_at) library place paid;
        }

-- the truth of the top value
pub tested : (texts : StrNo → Option (List ℕ)) (tuples : ConstNo → Option (List Value)) (layout : Layout) (w : PlainWorld) (heap : Heap Value ℕ) (v : Value) (b : Bool) → b ≡ truth (plain_heap texts tuples heap) (plain texts tuples v)
    → (calls : List Call) → HasValue 0 v calls → Tests (tables_of texts tuples layout) (world_over texts tuples w heap) b calls
tested texts tuples layout w heap v b e [] h = h
tested texts tuples layout w heap v b e (c ∷ cs) h = record { value = v; top = h; truth_is = sym e }

-- an iterator's parts
pub same_over : (over x : Value) (at y : ℕ) (calls : List Call) → IsIterator over at calls → IsIterator x y calls → over ≡ x
same_over over x at y [] h k = absurd h.1
same_over over x at y (c ∷ cs) h k = ap over_in (same_Some (slots.Iter over at h.0) (slots.Iter x y k.0) (sym h.1 ∙ k.1))

pub same_at : (over x : Value) (at y : ℕ) (calls : List Call) → IsIterator over at calls → IsIterator x y calls → at ≡ y
same_at over x at y [] h k = absurd h.1
same_at over x at y (c ∷ cs) h k = ap at_in (same_Some (slots.Iter over at h.0) (slots.Iter x y k.0) (sym h.1 ∙ k.1))

some_items : (s : Shown) → 0 < shown_length s → IsSome (shown_items s)
some_items (Text bytes) more = refl
some_items (Tuple items) more = refl
some_items (Items items) more = refl
some_items (Pairs pairs) more = refl
some_items (Range start stop step) more = refl
some_items _ more = absurd (omega (arith, more))

-- what has a place is iterable
pub iterable_within : (heap : PlainHeap) (v : Val) (at : ℕ) → at < length_of heap v → IsSome (items_in heap v)
iterable_within heap v at less = some_items (shown heap v) (omega (arith, less))
