-- Displays, and sequences that are unpacked.
use Rattle.std.proofs.Common.{◌≡◌, ℕ, zero, suc, ◌-◌, ◌<◌, ◌≤◌, List, [], ◌∷◌, ◌++◌, length, map, drop, Option, Some, Result, Ok, Err, slice_get, refl, sym, ap, ◌∙◌, subst, arith}
use Rattle.std.proofs.lemmas.List.{drop-map}
use Rattle.frame_moves.specs.mpy_base.World.{Heap, Objects}
use Rattle.frame_moves.specs.mpy_base.Val.{Val, PlainWorld}
use Rattle.prim_names.specs.arena_heap.declared.value.Value.{Value}
use Rattle.prim_names.specs.arena_heap.declared.value.StrNo.{StrNo}
use Rattle.prim_names.specs.arena_heap.declared.value.ConstNo.{ConstNo}
use Rattle.frame_moves.specs.bc_ops.declared.instr.Op.TheVariants as ops
use Rattle.frame_moves.specs.bc_ops.declared.instr.Instr.TheVariants as instrs
use Rattle.prim_names.specs.prim_types.py_values.Shown.{PlainHeap}
use Rattle.prim_names.specs.prim_types.py_primitives.Outcome.{Outcome}
use Rattle.prim_names.specs.prim_types.py_primitives.Uses.{unpack}
use Rattle.frame_moves.specs.py_effects.Effect.{Place, on_heap}
use Rattle.prim_names.specs.prim_walks.Plain.{plain, plain_heap}
use Rattle.prim_names.specs.prim_faults.declared.stop.Stop.{Stop}
use Rattle.prim_names.specs.prim_faults.declared.stop.Stop.TheVariants as stops
use Rattle.prim_names.specs.prim_assignments.Slots.{FillsSlots, AreKnown}
use Rattle.prim_names.specs.prim_faults.Sights.{world_over}
use Rattle.frame_moves.specs.vm_frames.declared.slot.Slot.{Slot}
use Rattle.frame_moves.specs.vm_frames.declared.slot.Slot.TheVariants as slots
use Rattle.frame_moves.specs.vm_frames.Calls.{Call, Calls, OfRunning}
use Rattle.frame_moves.specs.bc_labels.Positions.{position_in}
use Rattle.frame_moves.specs.vm_frames.Views.{View, slot_of, slots_of, starts_of, position_of, frame_of}
use Rattle.frame_moves.specs.bc_machine.Library.{Item, Plain, Library}
use Rattle.frame_moves.specs.bc_machine.State as states
use Rattle.frame_moves.specs.bc_machine.State.{State, Running, go}
use Rattle.frame_moves.specs.bc_machine.Operations as machine
use Rattle.frame_moves.specs.bc_machine.Step as step
use Rattle.frame_moves.specs.Shown.{Tables, view_of}
use Rattle.frame_moves.specs.Outcomes.{Does}
use Rattle.frame_moves.proofs.Stepping.{both, goes_to}
use Rattle.frame_values.specs.Slots.{HasValue, HasKnown, with_values, PutsValues}
use Rattle.frame_values.specs.Settled.{Settles}
use Rattle.frame_values.specs.Effects.{Layout, tables_of, Steps, IsKnownStop, Leaves}
use Rattle.frame_values.proofs.Acting.{Acts, goes, stops}
use Rattle.frame_values.proofs.Calls.{none_taken, running_within}
use Rattle.frame_values.proofs.Items.{on_one, Gave}
use Rattle.frame_values.proofs.Gathering.{taken_values}
use Rattle.frame_values.proofs.Visits.{unpack_free}

-- displays
-- ========

-- the items lie in the slots, the lowest first
pub record Lies (items : List Value) (c : Call) : Type 0 where
  pub enough : length items ≤ length c.slots
  pub each : (at : ℕ) (v : Value) → slice_get items at ≡ Some v → slice_get c.slots (length items - suc at) ≡ Some (slots.Value v)

pub lie : (items : List Value) (calls : List Call) → OfRunning (λ c. length items ≤ length c.slots) calls → ((at : ℕ) (v : Value) → slice_get items at ≡ Some v → HasValue (length items - suc at) v calls) → OfRunning (Lies items) calls
lie items [] there each = there
lie items (c ∷ cs) there each = record { enough = there; each = each }

taken : (view : View) (items : List Value) (c : Call) → Lies items c → machine.values (length items) (slots_of view (starts_of view c) c.slots) ≡ map view.plain items
taken view items c h = taken_values view (starts_of view c) (length items) items c.slots refl h.enough h.each

-- what is made of the items is put in their place
module _ (view : View) (library : Library) (place : Place) (paid : ℕ) (frames : List states.Frame) (w : PlainWorld) (items : List Value) (c : Call) (lies : Lies items c) (make : List Val → Outcome Val) where
  abbrev frame : states.Frame
  frame = frame_of view c

  abbrev n : ℕ
  n = length items

  pub built : step.gives library place paid frame frames w (drop n frame.slots) (on_heap w (make (machine.values n frame.slots))) ≡ Gave view (starts_of view c) library place paid frame frames w (drop n c.slots) (on_heap w (make (map view.plain items)))
  built =
      ap (λ (st : List states.Slot). step.gives library place paid frame frames w st (on_heap w (make (machine.values n frame.slots)))) (drop-map (slot_of view (starts_of view c)) n c.slots)
      ∙ ap (λ (vs : List Val). Gave view (starts_of view c) library place paid frame frames w (drop n c.slots) (on_heap w (make vs))) (taken view items c lies)

module _ (texts : StrNo → Option (List ℕ)) (tuples : ConstNo → Option (List Value)) where
  pub enough_slots : (objects : Objects Value ℕ) (n : ℕ) (calls : List Call) (P : Call → Type 0) → ((slot : ℕ) → slot < n → HasKnown texts tuples objects slot calls) → (n ≡ 0 → OfRunning P calls)
      → OfRunning (λ c. n ≤ length c.slots) calls
  enough_slots objects zero calls P known room = none_taken P calls (room refl)
  enough_slots objects (suc n) calls P known room = let k = known n (omega arith) in running_within n (slots.Value k.0) calls k.1

-- sequences
-- =========

laid : (view : View) (starts : List ℕ) (items : List Value) (st : List Slot) → map states.Value (map view.plain items) ++ slots_of view starts st ≡ slots_of view starts (map slots.Value items ++ st)
laid view starts [] st = refl
laid view starts (v ∷ items) st = ap (λ (z : List states.Slot). states.Value (view.plain v) ∷ z) (laid view starts items st)

module _ (view : View) (starts : List ℕ) (library : Library) (place : Place) (paid : ℕ) (frame : states.Frame) (frames : List states.Frame) (w : PlainWorld) (n : ℕ) where
  unpacked : (st : List Slot) (v : Value) → slice_get st 0 ≡ Some (slots.Value v)
      → step.number_step library place paid frame frames w ops.UnpackSequence n (slots_of view starts st)
      ≡ step.does library place paid frame frames w (on_heap w (unpack w.heap n (view.plain v))) (λ vs. step.next library place paid frame frames w (map states.Value vs ++ slots_of view starts (drop 1 st)))
  unpacked st v e =
      on_one (λ z. step.number_step library place paid frame frames w ops.UnpackSequence n (slots_of view starts z)
      ≡ step.does library place paid frame frames w (on_heap w (unpack w.heap n (view.plain v))) (λ vs. step.next library place paid frame frames w (map states.Value vs ++ slots_of view starts (drop 1 z)))) st (slots.Value v) e refl

module _ (texts : StrNo → Option (List ℕ)) (tuples : ConstNo → Option (List Value)) (end n : ℕ) (before behind : Heap Value ℕ) (old new : Calls) (result : Result (Unit {0}) Stop) (v : Value) (items : List Value) where
  abbrev Has : Call → Type 0
  Has c = slice_get c.slots 0 ≡ Some (slots.Value v)

  abbrev Fills : Result (Unit {0}) Stop → Type 0
  Fills given = FillsSlots texts tuples before behind items given (unpack (plain_heap texts tuples before) n (plain texts tuples v))

  abbrev item : Item
  item = Plain (instrs.Num ops.UnpackSequence n)

  abbrev change : Unit {0} → Call → Call
  change done = with_values end items

  module _ (layout : Layout) where
    abbrev T : Tables
    T = tables_of texts tuples layout

    abbrev PN : Call → Type 0
    PN c = Has c × (position_in (starts_of (view_of T) c) end ≡ suc (position_of (view_of T) c))

    abbrev next_of : Call → List states.Frame → List Val → PlainWorld → State
    next_of c frames vs w = go (suc (position_of (view_of T) c)) (map states.Value vs ++ slots_of (view_of T) (starts_of (view_of T) c) (drop 1 c.slots)) (frame_of (view_of T) c).entries (frame_of (view_of T) c) frames w

    on : (c : Call) (frames : List states.Frame) (w : PlainWorld) → PN c → next_of c frames (map (plain texts tuples) items) w ≡ Running 0 (frame_of (view_of T) (with_values end items c)) frames w
    on c frames w h =
        let view = view_of T in
        ap (λ (st : List states.Slot). go (suc (position_of view c)) st (frame_of view c).entries (frame_of view c) frames w) (laid view (starts_of view c) items (drop 1 c.slots))
        ∙ goes_to view c (suc (position_of view c)) end (map slots.Value items ++ drop 1 c.slots) frames w h.1

    acts : (given : Result (Unit {0}) Stop) → Fills given → Acts T item 0 before behind PN (List Val)
    acts given fills = record {
      effect = λ w. on_heap w (unpack w.heap n (plain texts tuples v));
      next = next_of;
      is = λ library place paid c frames w p. unpacked (view_of T) (starts_of (view_of T) c) library place paid (frame_of (view_of T) c) frames (world_over texts tuples w before) n c.slots v p.0;
      world = λ w. ap (λ (z : PlainHeap). record w { heap = z }) fills.heap;
      visits_are = λ w. unpack_free (plain_heap texts tuples before) n (plain texts tuples v);
    }

    does : (given : Result (Unit {0}) Stop) → Fills given → OfRunning PN old.calls → Settles change given old new result → Does T item 0 before behind old.calls new.calls result
    unfolding acts
    does (Ok done) fills p settled =
        subst (Does T item 0 before behind old.calls new.calls) (sym settled.0)
        (goes T item 0 before behind PN (List Val) (acts (Ok done) fills) (with_values end items) (map (plain texts tuples) items) on (λ w. sym fills.answer) old new p settled.1)
    does (Err stop) fills p settled =
        subst (Does T item 0 before behind old.calls new.calls) (sym settled.0)
        (stops T item 0 before behind PN (List Val) (acts (Err stop) fills) stop (λ w. sym fills.answer) old.calls new.calls p)

  pub unpacks : (given : Result (Unit {0}) Stop) → Fills given → OfRunning Has old.calls → Settles change given old new result → Steps texts tuples item 0 end before behind old.calls new.calls result
  unpacks given fills p settled layout next =
      let view = view_of (tables_of texts tuples layout) in
      does layout given fills (both Has (λ (c : Call). position_in (starts_of view c) end ≡ suc (position_of view c)) old.calls p next) settled

  put_values : (given : Result (Unit {0}) Stop) → length items ≡ n → AreKnown texts tuples behind.objects items given → Settles change given old new result → PutsValues texts tuples behind.objects end n old new result
  put_values (Ok done) many known settled = subst (PutsValues texts tuples behind.objects end n old new) (sym settled.0) (items, many, known, settled.1)
  put_values (Err stop) many known settled = subst (PutsValues texts tuples behind.objects end n old new) (sym settled.0) settled.1

  pub unpacks_moved : (given : Result (Unit {0}) Stop) → length items ≡ n → Fills given → Settles change given old new result → PutsValues texts tuples behind.objects end n old new result
  unpacks_moved given many fills settled = put_values given many fills.known settled

  fault_known : (stop : Stop) → AreKnown texts tuples behind.objects items (Err stop) → IsKnownStop texts tuples behind.objects (Err stop)
  fault_known (stops.Raises fault) known = known
  fault_known (stops.Full room) known = tt

  stop_known : (given : Result (Unit {0}) Stop) → AreKnown texts tuples behind.objects items given → Settles change given old new result → IsKnownStop texts tuples behind.objects result
  stop_known (Ok done) known settled = subst (IsKnownStop texts tuples behind.objects) (sym settled.0) tt
  stop_known (Err stop) known settled = subst (IsKnownStop texts tuples behind.objects) (sym settled.0) (fault_known stop known)

  pub unpacks_leaves : (given : Result (Unit {0}) Stop) → Fills given → Settles change given old new result → Leaves texts tuples before behind result
  unpacks_leaves given fills settled = record { later = fills.later; all_told = fills.all_told; stop = stop_known given fills.known settled }
