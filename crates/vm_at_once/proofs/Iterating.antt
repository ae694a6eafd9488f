-- An iterator that goes on to its next item.
use Rattle.std.proofs.Common.{◌≡◌, ℕ, suc, ◌<◌, ◌≤◌, List, [], ◌∷◌, length, drop, Option, Some, Ok, slice_get, refl, sym, ap, subst, ◌∙◌, arith}
use Rattle.std.specs.Prelude.{slice_set, All}
use Rattle.std.proofs.lemmas.List.{length-set, length-drop}
use Rattle.std.proofs.lemmas.List.Elements.{All-cons, All-drop}
use Rattle.state_values.specs.mpy_base.World.{Heap}
use Rattle.state_values.specs.prim_assignments.arena_heap.declared.value.Value.{Value}
use Rattle.state_values.specs.prim_assignments.arena_heap.declared.value.StrNo.{StrNo}
use Rattle.state_values.specs.prim_assignments.arena_heap.declared.value.ConstNo.{ConstNo}
use Rattle.state_values.specs.bc_progress.bc_ops.declared.instr.Op.TheVariants as ops
use Rattle.state_values.specs.bc_labels.Positions.{position_in}
use Rattle.state_values.specs.bc_progress.bc_machine.Library.{Jumps}
use Rattle.state_values.specs.bc_progress.py_primitives.Iterables.{item_of, length_of}
use Rattle.state_values.specs.prim_assignments.prim_walks.Plain.{plain, plain_heap}
use Rattle.state_values.specs.prim_assignments.prim_faults.Faults.{IsKnown}
use Rattle.state_values.specs.prim_assignments.prim_faults.Outcomes.{IsOutcome}
use Rattle.state_values.specs.vm_frames.declared.slot.Slot.{Slot}
use Rattle.state_values.specs.vm_frames.declared.slot.Slot.TheVariants as slots
use Rattle.state_values.specs.vm_frames.Calls.{Call, Calls, OfRunning, on_running}
use Rattle.state_values.specs.vm_frames.Views.{View, slots_of, starts_of}
use Rattle.state_values.specs.vm_states.OnTop as machine
use Rattle.state_values.specs.frame_moves.Shown.{view_of}
use Rattle.state_values.proofs.frame_moves_lemmas.Changing.{then_is, same_on, still}
use Rattle.state_values.proofs.frame_moves_lemmas.Stepping.{both, weaker}
use Rattle.state_values.specs.vm_states.Tops as tops
use Rattle.state_values.specs.frame_values.Effects.{JumpSteps, Leaves}
use Rattle.state_values.specs.frame_values.Slots.{iterator_over, with_item}
use Rattle.state_values.proofs.frame_values_lemmas.Iterating.{advances}
use Rattle.state_values.proofs.frame_values_lemmas.Settling.{of_outcome}
use Rattle.state_values.proofs.frame_values_lemmas.Visits.{item_free}
use Rattle.state_values.specs.frame_exits.Known.{IsKnownSlot}
use Rattle.state_values.specs.vm_fetching.declared.instruction.Fetched.{Fetched}
use Rattle.state_values.specs.vm_fetching.Instructions as fetched
use Rattle.state_values.specs.vm_states.State.{IsKnownSlot as IsKnownSlotOf}
use Rattle.state_values.specs.vm_states.Acting.{RunsOver}
use Rattle.state_values.specs.Keeping.{ActsKeeping}
use Rattle.state_values.specs.Onward.{DoesBehind}
use Rattle.vm_at_once.proofs.Ending.{ActsLaw, slots_onward}
use Rattle.vm_at_once.proofs.Finding.{all_at, of_running, first_known, value_known, machine_slots, view, starts, st}
use Rattle.vm_at_once.proofs.Telling.{of_program, layout_of, at_first}

-- the slots of the iterator on top
-- ================================

abbrev pub part_set : ℕ → Slot → Call → Call
part_set i s c = record c { slots = slice_set c.slots i s }

abbrev pub Four : Call → Type 0
Four c = 4 ≤ length c.slots

pub still_four : (i : ℕ) (s : Slot) (old new : Calls) → new ≡ on_running (part_set i s) old → OfRunning Four old.calls → OfRunning Four new.calls
still_four i s old new e there =
    still Four (part_set i s) old new e (weaker Four (λ c. Four (part_set i s c)) old.calls (λ c h. (let same = length-set c.slots i s in omega (arith, h, same))) there)

pub one_slot : (calls : List Call) (i : ℕ) → i < 4 → OfRunning Four calls → OfRunning (λ c. i < length c.slots) calls
one_slot calls i less there = weaker Four (λ c. i < length c.slots) calls (λ c h. omega (arith, h, less)) there

four_set : (over : Value) (at : ℕ) (xs : List Slot) → 4 ≤ length xs
    → slice_set (slice_set (slice_set (slice_set xs 3 (slots.Iter over at 0)) 2 (slots.Iter over at 1)) 1 (slots.Iter over at 2)) 0 (slots.Iter over at 3) ≡ iterator_over over at (drop 4 xs)
four_set over at [] there = absurd (omega (arith, there))
four_set over at (a ∷ []) there = absurd (omega (arith, there))
four_set over at (a ∷ b ∷ []) there = absurd (omega (arith, there))
four_set over at (a ∷ b ∷ c ∷ []) there = absurd (omega (arith, there))
four_set over at (a ∷ b ∷ c ∷ d ∷ xs) there = refl

pub iterator_set : (over : Value) (at : ℕ) (s0 s1 s2 s3 s4 : Calls) → OfRunning Four s0.calls
    → s1 ≡ on_running (part_set 3 (slots.Iter over at 0)) s0 → s2 ≡ on_running (part_set 2 (slots.Iter over at 1)) s1
    → s3 ≡ on_running (part_set 1 (slots.Iter over at 2)) s2 → s4 ≡ on_running (part_set 0 (slots.Iter over at 3)) s3
    → s4 ≡ on_running (λ c. record c { slots = iterator_over over at (drop 4 c.slots) }) s0
iterator_set over at s0 s1 s2 s3 s4 there a b c d =
    let f : Call → Call = part_set 3 (slots.Iter over at 0) in
    let g : Call → Call = λ (x : Call). part_set 2 (slots.Iter over at 1) (f x) in
    let h : Call → Call = λ (x : Call). part_set 1 (slots.Iter over at 2) (g x) in
    then_is h (part_set 0 (slots.Iter over at 3)) s0 s3 s4 (then_is g (part_set 1 (slots.Iter over at 2)) s0 s2 s3 (then_is f (part_set 2 (slots.Iter over at 1)) s0 s1 s2 a b) c) d
    ∙ same_on (λ x. part_set 0 (slots.Iter over at 3) (h x)) (λ x. record x { slots = iterator_over over at (drop 4 x.slots) }) Four s0
    (λ x k. ap (λ (z : List Slot). record x { slots = z }) (four_set over at x.slots k)) there

abbrev pub set_iterator : (over : Value) (at : ℕ) → Call → Call
set_iterator over at c = record c { slots = iterator_over over at (drop 4 c.slots) }

pub room_kept : (over : Value) (at : ℕ) (old new : Calls) → new ≡ on_running (set_iterator over at) old → OfRunning Four old.calls → OfRunning (λ c. length c.slots < old.slot_room) old.calls
    → OfRunning (λ c. length c.slots < new.slot_room) new.calls
room_kept over at old new e four room =
    let same : new.slot_room ≡ old.slot_room = ap (λ (z : Calls). z.slot_room) e in
    let P : Call → Type 0 = λ (c : Call). length c.slots < old.slot_room in
    subst (λ (n : ℕ). OfRunning (λ c. length c.slots < n) new.calls) (sym same)
    (still P (set_iterator over at) old new e
    (weaker (λ c. Four c × P c) (λ c. P (set_iterator over at c)) old.calls (λ c h. (let rest = length-drop 4 c.slots in omega (arith, h.0, h.1, rest))) (both Four P old.calls four room)))

-- what lies there
-- ===============

abbrev Iterators : Type 0
Iterators = (view : View) (starts : List ℕ) (st : List Slot) → machine.Iterator (slots_of view starts st) → tops.Iterator st

module _ {texts : StrNo → Option (List ℕ)} {tuples : ConstNo → Option (List Value)} {heap : Heap Value ℕ} {s : Calls} {fetched : Fetched} (h : RunsOver texts tuples heap s fetched) where
  pub four_slots : Iterators → machine.Iterator (machine_slots h) → OfRunning Four s.calls
  four_slots law found =
      let it : tops.Iterator (st h) = law (view h) (starts h) (st h) found in
      of_running h Four (let n = ap length it.are in omega (arith, n))

  pub over_known : (over : Value) (at part : ℕ) → OfRunning (λ c. slice_get c.slots 0 ≡ Some (slots.Iter over at part)) s.calls → IsKnown texts tuples heap.objects over
  over_known over at part e =
      let top : slice_get (st h) 0 ≡ Some (slots.Iter over at part) = subst (OfRunning (λ c. slice_get c.slots 0 ≡ Some (slots.Iter over at part))) h.ready.are e in
      value_known h over (all_at (IsKnownSlotOf h.program heap.objects) (st h) 0 (slots.Iter over at part) (first_known h).slots top)

-- what it acts as
-- ===============

abbrev pub for_at : (target end : ℕ) → Fetched
for_at target end = record { instruction = fetched.for_iter target; end = end }

module _ (texts : StrNo → Option (List ℕ)) (tuples : ConstNo → Option (List Value)) (heap : Heap Value ℕ) (target end : ℕ) (old new : Calls) where
  does_jumps : JumpSteps texts tuples (Jumps ops.ForIter) target end heap heap old.calls new.calls (Ok tt) → DoesBehind texts tuples (for_at target end) 0 heap heap old new (Ok tt)
  does_jumps steps p row tells r =
      let here : JumpSteps p.tables.texts p.tables.tuples (Jumps ops.ForIter) target end heap heap old.calls new.calls (Ok tt) =
      of_program texts tuples p tells (λ t u. JumpSteps t u (Jumps ops.ForIter) target end heap heap old.calls new.calls (Ok tt)) steps in
      let position = position_in (starts_of (view_of p.tables) r.first) target in
      here (layout_of p) position (at_first texts tuples (for_at target end) heap heap old new (Ok tt) p row r target) r.next

  abbrev Known : Slot → Type 0
  Known k = IsKnownSlot texts tuples heap.objects k

  known_iterator : (over : Value) (at : ℕ) (xs : List Slot) → IsKnown texts tuples heap.objects over → All Known xs → All Known (iterator_over over at xs)
  known_iterator over at xs o k =
      All-cons Known (slots.Iter over at 3) (slots.Iter over at 2 ∷ slots.Iter over at 1 ∷ slots.Iter over at 0 ∷ xs) o
      (All-cons Known (slots.Iter over at 2) (slots.Iter over at 1 ∷ slots.Iter over at 0 ∷ xs) o
      (All-cons Known (slots.Iter over at 1) (slots.Iter over at 0 ∷ xs) o (All-cons Known (slots.Iter over at 0) xs o k)))

  -- the item was found, and is put
  module _ (over : Value) (at part next : ℕ) (v : Value) (next_is : next ≡ suc at) (known : IsKnown texts tuples heap.objects over)
      (less : at < length_of (plain_heap texts tuples heap) (plain texts tuples over))
      (given : IsOutcome texts tuples heap heap (Ok v) (item_of (plain_heap texts tuples heap) (plain texts tuples over) at))
      (four : OfRunning Four old.calls) (there : OfRunning (λ c. slice_get c.slots 0 ≡ Some (slots.Iter over at part)) old.calls)
      (moved : new ≡ on_running (with_item end over next v) old) where
    moved_on : new ≡ on_running (with_item end over (suc at) v) old
    moved_on = subst (λ (n : ℕ). new ≡ on_running (with_item end over n v) old) next_is moved

    steps : JumpSteps texts tuples (Jumps ops.ForIter) target end heap heap old.calls new.calls (Ok tt)
    steps =
        advances texts tuples end old new (Ok tt) target over at part heap heap (Ok v)
        (of_outcome texts tuples heap heap (Ok v) 0 (λ h. item_of h (plain texts tuples over) at) given (item_free (plain_heap texts tuples heap) (plain texts tuples over) at))
        less (both Four (λ (d : Call). slice_get d.slots 0 ≡ Some (slots.Iter over at part)) old.calls four there) (refl, moved_on)

    pub acts : ActsLaw → Leaves texts tuples heap heap (Ok tt) → ActsKeeping texts tuples (for_at target end) 0 heap heap old new (Ok tt)
    acts law leaves =
        law texts tuples (for_at target end) 0 end heap heap old new (Ok tt) (λ p s row r. r.begins tt) (does_jumps steps)
        (slots_onward texts tuples heap.objects old new end (λ c. slots.Value v ∷ iterator_over over (suc at) (drop 4 c.slots))
        (λ c k. All-cons Known (slots.Value v) (iterator_over over (suc at) (drop 4 c.slots)) given.known (known_iterator over (suc at) (drop 4 c.slots) known (All-drop Known 4 c.slots k))) moved_on)
        leaves
