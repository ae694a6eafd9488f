-- An operator over two numbers, whose value is put in their place.
use Rattle.std.proofs.Common.{◌≡◌, ℕ, ℤ, List, drop, Option, Some, slice_get, Ok, refl, sym, ap, subst, ◌∙◌}
use Rattle.state_values.specs.mpy_base.World.{Heap}
use Rattle.state_values.specs.mpy_base.Val.{Val, Int, PlainWorld}
use Rattle.state_values.specs.prim_assignments.arena_heap.declared.value.Value.{Value}
use Rattle.state_values.specs.prim_assignments.arena_heap.declared.value.Value.TheVariants as values
use Rattle.state_values.specs.prim_assignments.arena_heap.declared.value.StrNo.{StrNo}
use Rattle.state_values.specs.prim_assignments.arena_heap.declared.value.ConstNo.{ConstNo}
use Rattle.state_values.specs.prim_assignments.arena_objects.Keys.{AllTold}
use Rattle.state_values.specs.bc_progress.bc_ops.declared.instr.Instr.TheVariants as instrs
use Rattle.state_values.specs.bc_progress.py_primitives.Outcome.{Outcome}
use Rattle.state_values.specs.py_effects.Effect.{Place, on_heap}
use Rattle.state_values.specs.bc_progress.bc_machine.Library.{Library, Plain}
use Rattle.state_values.specs.bc_progress.bc_machine.Operations.{TwoValued, operator_at}
use Rattle.state_values.specs.bc_progress.bc_machine.State as states
use Rattle.state_values.specs.bc_progress.bc_machine.Step as step
use Rattle.state_values.specs.prim_assignments.prim_walks.Plain.{plain, plain_heap}
use Rattle.state_values.specs.prim_assignments.prim_faults.Outcomes.{IsOutcome}
use Rattle.state_values.specs.prim_assignments.prim_faults.Sights.{world_over}
use Rattle.state_values.specs.vm_frames.declared.slot.Slot.{Slot}
use Rattle.state_values.specs.vm_frames.declared.slot.Slot.TheVariants as slots
use Rattle.state_values.specs.vm_frames.Calls.{Call, Calls, on_running}
use Rattle.state_values.specs.vm_frames.Views.{View, slots_of, starts_of, frame_of}
use Rattle.state_values.specs.frame_moves.Shown.{view_of}
use Rattle.state_values.proofs.frame_moves_lemmas.Stepping.{both}
use Rattle.state_values.specs.frame_values.Effects.{tables_of, Steps}
use Rattle.state_values.specs.frame_values.Slots.{HasValue, Puts, with_value}
use Rattle.state_values.proofs.frame_values_lemmas.Items.{on_two, Gave}
use Rattle.state_values.proofs.frame_values_lemmas.Settling.{Answers, of_outcome, puts_steps}
use Rattle.vm_at_once.specs.Numbers.{Gives, IsAnswer}

module _ (view : View) (starts : List ℕ) (library : Library) (place : Place) (paid : ℕ) (frame : states.Frame) (frames : List states.Frame) (w : PlainWorld) (number : ℕ) where
  two_done : (operator : TwoValued) → operator_at number ≡ Some operator → (st : List Slot) (right left : Value) → slice_get st 0 ≡ Some (slots.Value right) → slice_get st 1 ≡ Some (slots.Value left)
      → step.two_step library place paid frame frames w (slots_of view starts st) (operator_at number) ≡ Gave view starts library place paid frame frames w (drop 2 st) (on_heap w (operator w.heap (view.plain left) (view.plain right)))
  two_done operator e st right left f h =
      ap (λ (o : Option TwoValued). step.two_step library place paid frame frames w (slots_of view starts st) o) e
      ∙ on_two (λ z. step.two_step library place paid frame frames w (slots_of view starts z) (Some operator) ≡ Gave view starts library place paid frame frames w (drop 2 z) (on_heap w (operator w.heap (view.plain left) (view.plain right))))
      st (slots.Value right) (slots.Value left) f h refl

module _ (texts : StrNo → Option (List ℕ)) (tuples : ConstNo → Option (List Value)) (heap : Heap Value ℕ) (old new : Calls) (number end : ℕ) (left right x y : ℤ) (v : Value) (visits : ℕ)
    (is_left : x ≡ left) (is_right : y ≡ right) (given : IsAnswer number x y v visits) (all_told : AllTold texts tuples heap.objects)
    (at_left : HasValue 1 (values.Int left) old.calls) (at_right : HasValue 0 (values.Int right) old.calls) (moved : new ≡ on_running (with_value end 2 v) old) where
  gives : Gives number left right (plain texts tuples v) visits
  gives =
      subst (λ (k : ℤ). Gives number k right (plain texts tuples v) visits) is_left
      (subst (λ (k : ℤ). Gives number x k (plain texts tuples v) visits) is_right (given.gives texts tuples))

  outcome : IsOutcome texts tuples heap heap (Ok v) (gives.0 (plain_heap texts tuples heap) (Int left) (Int right))
  outcome =
      subst (λ (o : Outcome Val). IsOutcome texts tuples heap heap (Ok v) o) (sym (gives.2 (plain_heap texts tuples heap)))
      (record { answer = refl; heap = refl; known = given.known texts tuples heap.objects; later = record { keeps = λ kind n k. k }; all_told = all_told })

  answers : Answers texts tuples heap heap (Ok v) visits (λ w. on_heap w (gives.0 w.heap (Int left) (Int right)))
  answers =
      of_outcome texts tuples heap heap (Ok v) visits (λ h. gives.0 h (Int left) (Int right)) outcome
      (ap (λ (o : Outcome Val). o.visits) (gives.2 (plain_heap texts tuples heap)))

  pub steps : Steps texts tuples (Plain (instrs.Binary number)) visits end heap heap old.calls new.calls (Ok tt)
  steps =
      puts_steps texts tuples end 2 heap heap old new (Ok tt) (Ok v) visits (λ w. on_heap w (gives.0 w.heap (Int left) (Int right))) answers (Plain (instrs.Binary number))
      (λ (d : Call). (slice_get d.slots 0 ≡ Some (slots.Value (values.Int right))) × (slice_get d.slots 1 ≡ Some (slots.Value (values.Int left))))
      (both (λ (d : Call). slice_get d.slots 0 ≡ Some (slots.Value (values.Int right))) (λ (d : Call). slice_get d.slots 1 ≡ Some (slots.Value (values.Int left))) old.calls at_right at_left)
      (λ layout library place paid d frames w h.
      let view = view_of (tables_of texts tuples layout) in
      two_done view (starts_of view d) library place paid (frame_of view d) frames (world_over texts tuples w heap) number gives.0 gives.1 d.slots (values.Int right) (values.Int left) h.0 h.1)
      (refl, moved)

  pub puts : Puts texts tuples heap.objects (with_value end 2) old new (Ok tt)
  puts = (v, given.known texts tuples heap.objects, moved)
