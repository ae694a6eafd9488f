-- Items of a display lie on top of the running call's slots.
use Rattle.std.proofs.Common.{◌≡◌, ℕ, zero, suc, ◌<◌, ◌≤◌, List, [], ◌∷◌, ◌++◌, length, map, Option, Some, refl, ◌∙◌, ap, arith}
use Rattle.std.specs.Prelude.{slice_get}
use Rattle.vm_states.specs.mpy_base.World.{Heap}
use Rattle.vm_states.specs.prim_names.arena_heap.declared.value.Value.{Value}
use Rattle.vm_states.specs.prim_names.arena_heap.declared.value.StrNo.{StrNo}
use Rattle.vm_states.specs.prim_names.arena_heap.declared.value.ConstNo.{ConstNo}
use Rattle.vm_states.specs.vm_frames.declared.slot.Slot.{Slot}
use Rattle.vm_states.specs.vm_frames.declared.slot.Slot.TheVariants as slots
use Rattle.vm_states.specs.vm_frames.Calls.{Calls}
use Rattle.vm_states.specs.vm_frames.Views.{View, slots_of}
use Rattle.vm_states.specs.OnTop as machine
use Rattle.vm_states.specs.Tops as tops
use Rattle.vm_states.specs.frame_values.Slots.{HasKnown}
use Rattle.vm_states.specs.vm_fetching.declared.instruction.Fetched.{Fetched}
use Rattle.vm_states.specs.Acting.{RunsOver}
use Rattle.state_values.proofs.Finding.{has_known, machine_slots, view, starts, st}

abbrev Several : Type 0
Several = (view : View) (starts : List ℕ) (count : ℕ) (st : List Slot) → machine.Values count machine.Anything (slots_of view starts st) → tops.Values count tops.Anything st

value_at : (vs : List Value) (below : List Slot) (slot : ℕ) → slot < length vs → (v : Value) × (slice_get (map slots.Value vs ++ below) slot ≡ Some (slots.Value v))
value_at [] below slot less = absurd (omega (arith, less))
value_at (v ∷ vs) below zero less = (v, refl)
value_at (v ∷ vs) below (suc slot) less = value_at vs below slot (omega (arith, less))

pub items_known : {texts : StrNo → Option (List ℕ)} {tuples : ConstNo → Option (List Value)} {heap : Heap Value ℕ} {s : Calls} {fetched : Fetched} (h : RunsOver texts tuples heap s fetched)
    → Several → (count : ℕ) → machine.Values count machine.Anything (machine_slots h) → (slot : ℕ) → slot < count → HasKnown texts tuples heap.objects slot s.calls
items_known h law count found slot less =
    let t = law (view h) (starts h) count (st h) found in
    let m = t.many in
    let v = value_at t.values t.below slot (omega (arith, less, m)) in
    has_known h slot v.0 (ap (λ (z : List Slot). slice_get z slot) t.are ∙ v.1)

at_least : (vs : List Value) (below : List Slot) → length vs ≤ length (map slots.Value vs ++ below)
at_least [] below = omega arith
at_least (v ∷ vs) below = let n = at_least vs below in omega (arith, n)

-- there are no more than fit into the slots
pub items_within : {texts : StrNo → Option (List ℕ)} {tuples : ConstNo → Option (List Value)} {heap : Heap Value ℕ} {s : Calls} {fetched : Fetched} (h : RunsOver texts tuples heap s fetched)
    → Several → (count : ℕ) → machine.Values count machine.Anything (machine_slots h) → count ≤ s.slot_room
items_within h law count found =
    let t = law (view h) (starts h) count (st h) found in
    let m = t.many in
    let n = at_least t.values t.below in
    let k = ap (λ (z : List Slot). length z) t.are in
    let room = h.ready.slots in
    omega (arith, m, n, k, room)
