-- An iterator goes on to its next item, or ends.
use Rattle.std.proofs.Common.{◌≡◌, ◌⊎◌, inl, inr, ℕ, zero, suc, ◌<◌, ◌≤◌, List, length, drop, Option, Some, Result, Ok, refl, sym, ap, subst, arith}
use Rattle.std.specs.Prelude.{slice_get}
use Rattle.std.proofs.lemmas.List.Elements.{All-drop}
use Rattle.vm_states.specs.mpy_base.World.{Heap}
use Rattle.vm_states.specs.prim_names.arena_heap.declared.value.Value.{Value}
use Rattle.vm_states.specs.prim_names.arena_heap.declared.value.StrNo.{StrNo}
use Rattle.vm_states.specs.prim_names.arena_heap.declared.value.ConstNo.{ConstNo}
use Rattle.vm_states.specs.bc_ops.declared.instr.Op.TheVariants as ops
use Rattle.vm_states.specs.bc_machine.Library.{Jumps}
use Rattle.vm_states.specs.prim_names.prim_faults.declared.stop.Stop.{Stop}
use Rattle.vm_states.specs.prim_names.prim_faults.Faults.{IsKnown}
use Rattle.vm_states.specs.vm_frames.declared.slot.Slot.{Slot}
use Rattle.vm_states.specs.vm_frames.declared.slot.Slot.TheVariants as slots
use Rattle.vm_states.specs.vm_frames.Calls.{Calls, OfRunning, on_running}
use Rattle.vm_states.specs.vm_frames.Views.{View, slots_of}
use Rattle.vm_states.specs.OnTop as machine
use Rattle.vm_states.specs.Tops as tops
use Rattle.vm_states.specs.frame_values.Effects.{JumpSteps, Leaves}
use Rattle.vm_states.specs.frame_values.Slots.{HasIterator, Puts, with_item, without}
use Rattle.vm_states.specs.frame_exits.Known.{IsKnownSlot}
use Rattle.vm_states.proofs.frame_exits_lemmas.Keeping.{value_later}
use Rattle.vm_states.specs.vm_fetching.declared.instruction.Fetched.{Fetched}
use Rattle.vm_states.specs.vm_fetching.Instructions as fetched
use Rattle.vm_states.specs.State.{IsKnownSlot as IsKnownSlotOf}
use Rattle.vm_states.specs.Acting.{RunsOver}
use Rattle.state_values.specs.Keeping.{ActsKeeping}
use Rattle.state_values.specs.Onward.{GoesOnward}
use Rattle.state_values.proofs.Doing.{does_jumps}
use Rattle.state_values.proofs.Ending.{ActsLaw}
use Rattle.state_values.proofs.Finding.{all_at, of_running, first_known, value_known, machine_slots, view, starts, st}
use Rattle.state_values.proofs.Shapes as shapes

below_or_past : (a b : ℕ) → (a < b) ⊎ (b ≤ a)
below_or_past a zero = inr (omega arith)
below_or_past zero (suc b) = inl (omega arith)
below_or_past (suc a) (suc b) = elim (below_or_past a b) [ inl h ↦ inl (omega (arith, h)) | inr h ↦ inr (omega (arith, h)) ]

abbrev Iterators : Type 0
Iterators = (view : View) (starts : List ℕ) (st : List Slot) → machine.Iterator (slots_of view starts st) → tops.Iterator st

module _ {texts : StrNo → Option (List ℕ)} {tuples : ConstNo → Option (List Value)} {heap : Heap Value ℕ} {s : Calls} {fetched : Fetched} (h : RunsOver texts tuples heap s fetched) (law : Iterators) (found : machine.Iterator (machine_slots h)) where
  abbrev it : tops.Iterator (st h)
  it = law (view h) (starts h) (st h) found

  pub has_iterator : HasIterator texts tuples heap.objects s.calls
  has_iterator =
      let top : slice_get (st h) 0 ≡ Some (slots.Iter it.over it.at 3) = ap (λ (z : List Slot). slice_get z 0) it.are in (
        it.over,
        it.at,
        (3, of_running h (λ c. slice_get c.slots 0 ≡ Some (slots.Iter it.over it.at 3)) top),
        value_known h it.over (all_at (IsKnownSlotOf h.program heap.objects) (st h) 0 (slots.Iter it.over it.at 3) (first_known h).slots top),
      )

  pub four_slots : OfRunning (λ c. 4 ≤ length c.slots) s.calls
  four_slots = of_running h (λ c. 4 ≤ length c.slots) (let n = ap length it.are in omega (arith, n))

abbrev for_at : (target end : ℕ) → Fetched
for_at target end = record { instruction = fetched.for_iter target; end = end }

module _ (acts : ActsLaw) (target end : ℕ) (old new : Calls) {texts : StrNo → Option (List ℕ)} {tuples : ConstNo → Option (List Value)} {before behind : Heap Value ℕ} {result : Result (Unit {0}) Stop} (leaves : Leaves texts tuples before behind result)
    (steps : JumpSteps texts tuples (Jumps ops.ForIter) target end before behind old.calls new.calls result) where
  abbrev Known : Slot → Type 0
  Known k = IsKnownSlot texts tuples behind.objects k

  advanced : (over : Value) (at : ℕ) → IsKnown texts tuples before.objects over → Puts texts tuples behind.objects (with_item end over (suc at)) old new result → ActsKeeping texts tuples (for_at target end) 0 before behind old new result
  advanced over at known moved =
      acts texts tuples (for_at target end) 0 end before behind old new result (λ p s row r. r.begins tt)
      (does_jumps texts tuples (for_at target end) before behind old new result (Jumps ops.ForIter) target (λ p c. refl) steps)
      (shapes.item texts tuples behind.objects old new end over (suc at) result (value_later texts tuples leaves.later over known) moved) leaves

  ended : (result ≡ Ok tt) × (new ≡ on_running (without target 4) old) → ActsKeeping texts tuples (for_at target end) 0 before behind old new result
  ended moved =
      acts texts tuples (for_at target end) 0 target before behind old new result (λ p s row r. r.target)
      (does_jumps texts tuples (for_at target end) before behind old new result (Jumps ops.ForIter) target (λ p c. refl) steps)
      (subst (GoesOnward texts tuples behind.objects target old new) (sym moved.0)
      (shapes.slots_onward texts tuples behind.objects old new target (λ c. drop 4 c.slots) (λ c k. All-drop Known 4 c.slots k) moved.1)) leaves

  pub iterates : (over : Value) (at many : ℕ) → IsKnown texts tuples before.objects over
      → (at < many → Puts texts tuples behind.objects (with_item end over (suc at)) old new result)
      → (many ≤ at → (result ≡ Ok tt) × (new ≡ on_running (without target 4) old)) → ActsKeeping texts tuples (for_at target end) 0 before behind old new result
  iterates over at many known item past =
      elim (below_or_past at many) [ inl less ↦ advanced over at known (item less) | inr over_it ↦ ended (past over_it) ]
