-- What method calls begin with: from what is looked up to what the instruction does.
use Rattle.std.proofs.Common.{◌≡◌, ℕ, suc, List, drop, Option, Some, Result, Ok, Err, slice_get, refl, sym, subst}
use Rattle.frame_moves.specs.mpy_base.World.{Heap}
use Rattle.frame_moves.specs.mpy_base.Val.{PlainWorld}
use Rattle.frame_moves.proofs.mpy_base_lemmas.Worlds.{later_same}
use Rattle.prim_names.specs.arena_heap.declared.value.Value.{Value}
use Rattle.prim_names.specs.arena_heap.declared.value.StrNo.{StrNo}
use Rattle.prim_names.specs.arena_heap.declared.value.ConstNo.{ConstNo}
use Rattle.prim_names.specs.arena_objects.Iterables.{or_nothing}
use Rattle.prim_names.specs.arena_objects.Keys.{AllTold}
use Rattle.frame_moves.specs.bc_ops.declared.instr.Op.TheVariants as ops
use Rattle.frame_moves.specs.py_effects.Effect.{Place}
use Rattle.frame_moves.specs.py_effects.Names as effects
use Rattle.frame_moves.specs.py_effects.Names.{load_method}
use Rattle.prim_names.specs.prim_walks.Plain.{plain}
use Rattle.prim_names.specs.prim_faults.declared.stop.Stop.{Stop}
use Rattle.prim_names.specs.prim_faults.declared.stop.Stop.TheVariants as stops
use Rattle.prim_names.specs.prim_faults.Sights.{world_over}
use Rattle.prim_names.specs.declared.attributes.Looked.{Looked}
use Rattle.prim_names.specs.declared.attributes.Looked.TheVariants as looks
use Rattle.prim_names.specs.Looks.{Looks, IsKnownLook, plain_looked}
use Rattle.frame_moves.specs.vm_frames.declared.slot.Slot.{Slot}
use Rattle.frame_moves.specs.vm_frames.declared.slot.Slot.TheVariants as slots
use Rattle.frame_moves.specs.vm_frames.Calls.{Call, Calls, OfRunning}
use Rattle.frame_moves.specs.bc_labels.Positions.{position_in}
use Rattle.frame_moves.specs.vm_frames.Views.{View, slots_of, starts_of, position_of, frame_of}
use Rattle.frame_moves.specs.bc_machine.Library.{Name, Names, Library}
use Rattle.frame_moves.specs.bc_machine.State as states
use Rattle.frame_moves.specs.bc_machine.State.{State, Running, go}
use Rattle.frame_moves.specs.bc_machine.Parts.{looked_on}
use Rattle.frame_moves.specs.bc_machine.Step as step
use Rattle.frame_moves.specs.Shown.{Tables, view_of}
use Rattle.frame_moves.specs.Outcomes.{Does}
use Rattle.frame_moves.proofs.Stepping.{both, goes_to}
use Rattle.frame_values.specs.Slots.{looked_over, with_looked, PutsLooked}
use Rattle.frame_values.specs.Settled.{Settles}
use Rattle.frame_values.specs.Effects.{Layout, tables_of, Steps, IsKnownStop, Leaves}
use Rattle.frame_values.proofs.Acting.{Acts, goes, stops}
use Rattle.frame_values.proofs.Items.{on_one}

module _ (view : View) (starts : List ℕ) (library : Library) (place : Place) (paid : ℕ) (frame : states.Frame) (frames : List states.Frame) (w : PlainWorld) (name : Name) where
  looked : (st : List Slot) (o : Value) → slice_get st 0 ≡ Some (slots.Value o)
      → step.name_step library place paid frame frames w ops.LoadMethod name (slots_of view starts st)
      ≡ step.does library place paid frame frames w (load_method w (view.plain o) name) (λ l. step.next library place paid frame frames w (looked_on l (slots_of view starts (drop 1 st))))
  looked st o e =
      on_one (λ z. step.name_step library place paid frame frames w ops.LoadMethod name (slots_of view starts z)
      ≡ step.does library place paid frame frames w (load_method w (view.plain o) name) (λ l. step.next library place paid frame frames w (looked_on l (slots_of view starts (drop 1 z))))) st (slots.Value o) e refl

module _ (texts : StrNo → Option (List ℕ)) (tuples : ConstNo → Option (List Value)) (end : ℕ) (heap : Heap Value ℕ) (old new : Calls) (result : Result (Unit {0}) Stop) (o : Value) (text : StrNo) where
  abbrev name : Name
  name = or_nothing (texts text)

  abbrev Has : Call → Type 0
  Has c = slice_get c.slots 0 ≡ Some (slots.Value o)

  module _ (layout : Layout) where
    abbrev T : Tables
    T = tables_of texts tuples layout

    abbrev PN : Call → Type 0
    PN c = Has c × (position_in (starts_of (view_of T) c) end ≡ suc (position_of (view_of T) c))

    abbrev behind : Call → List states.Frame → effects.Looked → PlainWorld → State
    behind c frames l w = go (suc (position_of (view_of T) c)) (looked_on l (slots_of (view_of T) (starts_of (view_of T) c) (drop 1 c.slots))) (frame_of (view_of T) c).entries (frame_of (view_of T) c) frames w

    on : (l : Looked) (c : Call) (frames : List states.Frame) (w : PlainWorld) → PN c → behind c frames (plain_looked texts tuples l) w ≡ Running 0 (frame_of (view_of T) (with_looked end l c)) frames w
    on (looks.Bound method object) c frames w h = goes_to (view_of T) c (suc (position_of (view_of T) c)) end (looked_over (looks.Bound method object) (drop 1 c.slots)) frames w h.1
    on (looks.Free v) c frames w h = goes_to (view_of T) c (suc (position_of (view_of T) c)) end (looked_over (looks.Free v) (drop 1 c.slots)) frames w h.1

    acts : (given : Result Looked Stop) → Looks texts tuples heap given (λ w see. load_method w (see.value o) (see.text text)) → Acts T (Names ops.LoadMethod name) 0 heap heap PN effects.Looked
    acts given h = record {
      effect = λ w. load_method w (plain texts tuples o) name;
      next = behind;
      is = λ library place paid c frames w p. looked (view_of T) (starts_of (view_of T) c) library place paid (frame_of (view_of T) c) frames (world_over texts tuples w heap) name c.slots o p.0;
      world = h.world;
      visits_are = h.visits;
    }

    does : (given : Result Looked Stop) → Looks texts tuples heap given (λ w see. load_method w (see.value o) (see.text text)) → OfRunning PN old.calls → Settles (with_looked end) given old new result
        → Does T (Names ops.LoadMethod name) 0 heap heap old.calls new.calls result
    unfolding acts
    does (Ok l) h p settled =
        subst (Does T (Names ops.LoadMethod name) 0 heap heap old.calls new.calls) (sym settled.0)
        (goes T (Names ops.LoadMethod name) 0 heap heap PN effects.Looked (acts (Ok l) h) (with_looked end l) (plain_looked texts tuples l) (on l) (λ w. sym (h.answer w)) old new p settled.1)
    does (Err stop) h p settled =
        subst (Does T (Names ops.LoadMethod name) 0 heap heap old.calls new.calls) (sym settled.0)
        (stops T (Names ops.LoadMethod name) 0 heap heap PN effects.Looked (acts (Err stop) h) stop (λ w. sym (h.answer w)) old.calls new.calls p)

  pub looked_steps : (given : Result Looked Stop) → Looks texts tuples heap given (λ w see. load_method w (see.value o) (see.text text)) → OfRunning Has old.calls → Settles (with_looked end) given old new result
      → Steps texts tuples (Names ops.LoadMethod name) 0 end heap heap old.calls new.calls result
  looked_steps given h p settled layout next =
      let view = view_of (tables_of texts tuples layout) in
      does layout given h (both Has (λ (c : Call). position_in (starts_of view c) end ≡ suc (position_of view c)) old.calls p next) settled

  pub looked_moved : (given : Result Looked Stop) → IsKnownLook texts tuples heap.objects given → Settles (with_looked end) given old new result → PutsLooked texts tuples heap.objects end old new result
  looked_moved (Ok l) known settled = subst (PutsLooked texts tuples heap.objects end old new) (sym settled.0) (l, known, settled.1)
  looked_moved (Err stop) known settled = subst (PutsLooked texts tuples heap.objects end old new) (sym settled.0) settled.1

  looked_fault : (stop : Stop) → IsKnownLook texts tuples heap.objects (Err stop) → IsKnownStop texts tuples heap.objects (Err stop)
  looked_fault (stops.Raises fault) known = known
  looked_fault (stops.Full room) known = tt

  looked_stop : (given : Result Looked Stop) → IsKnownLook texts tuples heap.objects given → Settles (with_looked end) given old new result → IsKnownStop texts tuples heap.objects result
  looked_stop (Ok l) known settled = subst (IsKnownStop texts tuples heap.objects) (sym settled.0) tt
  looked_stop (Err stop) known settled = subst (IsKnownStop texts tuples heap.objects) (sym settled.0) (looked_fault stop known)

  pub looked_leaves : (given : Result Looked Stop) → IsKnownLook texts tuples heap.objects given → AllTold texts tuples heap.objects → Settles (with_looked end) given old new result → Leaves texts tuples heap heap result
  looked_leaves given known told settled = record { later = later_same heap.objects; all_told = told; stop = looked_stop given known settled }
