-- What an instruction finds that was fetched for the first of the calls of a program.
use Rattle.std.proofs.Common.{◌≡◌, ℕ, ◌<◌, ◌≤◌, List, length, Option, Some, None, Ok, All, sym, ap, subst, ◌∙◌, arith}
use Rattle.std.specs.Prelude.{IfSome, IsSome, slice_get, get_or}
use Rattle.std.proofs.lemmas.List.Elements.{All-head, All-get_or}
use Rattle.std.proofs.lemmas.Option.{slice_get_within, slice_get-get_or, get_or_from_slice_get}
use Rattle.state_values.specs.mpy_base.World.{Heap, ADict, IsA}
use Rattle.state_values.specs.prim_assignments.arena_heap.declared.value.Value.{Value}
use Rattle.state_values.specs.prim_assignments.arena_heap.declared.value.StrNo.{StrNo}
use Rattle.state_values.specs.prim_assignments.arena_heap.declared.value.StrNo.TheVariants as strs
use Rattle.state_values.specs.prim_assignments.arena_heap.declared.value.ConstNo.{ConstNo}
use Rattle.state_values.specs.prim_assignments.arena_objects.Keys.{AllTold}
use Rattle.state_values.specs.bc_library.Constants.{text_at}
use Rattle.state_values.specs.bc_progress.bc_machine.State as states
use Rattle.state_values.specs.prim_assignments.prim_faults.Faults.{IsKnown}
use Rattle.state_values.specs.vm_frames.declared.slot.Slot.{Slot}
use Rattle.state_values.specs.vm_frames.declared.slot.Slot.TheVariants as slots
use Rattle.state_values.specs.vm_frames.Calls.{Call, Calls, OfRunning}
use Rattle.state_values.specs.vm_frames.Views.{View, slots_of, starts_of}
use Rattle.state_values.specs.frame_moves.Shown.{view_of}
use Rattle.state_values.specs.vm_states.OnTop as machine
use Rattle.state_values.specs.vm_states.Tops as tops
use Rattle.state_values.specs.frame_values.Slots.{HasValue, HasKnown, HasLocal}
use Rattle.state_values.specs.frame_values.Effects.{Leaves}
use Rattle.state_values.specs.vm_fetching.declared.instruction.Fetched.{Fetched}
use Rattle.state_values.specs.vm_states.State.{IsKnownSlot, IsKnownLocal, IsKnownCall}
use Rattle.state_values.specs.vm_states.Acting.{RunsOver}
use Rattle.vm_at_once.proofs.Telling.{of_texts}

-- what is of all is of the one in a place
pub all_at : {X : Type 0} (P : X → Type 0) (xs : List X) (i : ℕ) (x : X) → All P xs → slice_get xs i ≡ Some x → P x
all_at P xs i x h e = subst P (get_or_from_slice_get xs i x x e) (All-get_or P xs i x (slice_get_within xs i x e) h)

abbrev One : Type 0
One = (view : View) (starts : List ℕ) (st : List Slot) → machine.OneValue (slots_of view starts st) → tops.OneValue st

abbrev Two : Type 0
Two = (view : View) (starts : List ℕ) (st : List Slot) → machine.TwoValues (slots_of view starts st) → tops.TwoValues st

abbrev Stored : Type 0
Stored = (view : View) (starts : List ℕ) (st : List Slot) → machine.Stored (slots_of view starts st) → tops.Stored st

module _ {texts : StrNo → Option (List ℕ)} {tuples : ConstNo → Option (List Value)} {heap : Heap Value ℕ} {s : Calls} {fetched : Fetched} (h : RunsOver texts tuples heap s fetched) where
  -- the slots of the first of the calls, as the machine has them
  abbrev pub machine_slots : List states.Slot
  machine_slots = slots_of (view_of h.program.tables) (starts_of (view_of h.program.tables) h.ready.first) h.ready.first.slots

  pub all_told : AllTold texts tuples heap.objects
  all_told = of_texts texts tuples h.program h.tells (λ t u. AllTold t u heap.objects) h.state.all_told

  pub first_known : IsKnownCall h.program heap.objects h.ready.first
  first_known = All-head (IsKnownCall h.program heap.objects) h.ready.first h.ready.others (subst (All (IsKnownCall h.program heap.objects)) h.ready.are h.state.known)

  pub of_running : (P : Call → Type 0) → P h.ready.first → OfRunning P s.calls
  of_running P k = subst (OfRunning P) (sym h.ready.are) k

  pub has_room : OfRunning (λ c. length c.slots < s.slot_room) s.calls
  has_room = of_running (λ c. length c.slots < s.slot_room) h.ready.slots

  pub value_known : (v : Value) → IsKnown h.program.tables.texts h.program.tables.tuples heap.objects v → IsKnown texts tuples heap.objects v
  value_known v k = of_texts texts tuples h.program h.tells (λ t u. IsKnown t u heap.objects v) k

  pub has_known : (slot : ℕ) (v : Value) → slice_get h.ready.first.slots slot ≡ Some (slots.Value v) → HasKnown texts tuples heap.objects slot s.calls
  has_known slot v e =
      (v, of_running (λ c. slice_get c.slots slot ≡ Some (slots.Value v)) e, value_known v (all_at (IsKnownSlot h.program heap.objects) h.ready.first.slots slot (slots.Value v) first_known.slots e))

  pub has_local : (n : ℕ) → n < length h.ready.first.locals → HasLocal texts tuples heap.objects n s.calls
  has_local n less =
      let local = get_or h.ready.first.locals n None in (
        local,
        of_running (λ c. slice_get c.locals n ≡ Some local) (slice_get-get_or h.ready.first.locals n None less),
        of_texts texts tuples h.program h.tells (λ t u. IfSome local (IsKnown t u heap.objects)) (All-get_or (IsKnownLocal h.program heap.objects) h.ready.first.locals n None less first_known.locals),
      )

  pub has_names : OfRunning (λ c. IsA heap.objects ADict c.names.cell) s.calls
  has_names = of_running (λ c. IsA heap.objects ADict c.names.cell) first_known.names

  pub text_told : (text : StrNo) → ((n : ℕ) × (text ≡ strs.Pool n) × IsSome (text_at h.program.shelf text)) → IsSome (texts text)
  text_told text k = subst (λ (t : StrNo → Option (List ℕ)). IsSome (t text)) (sym h.means.constants.texts ∙ h.tells.texts_are) k.2

  abbrev pub view : View
  view = view_of h.program.tables

  abbrev pub starts : List ℕ
  starts = starts_of view h.ready.first

  abbrev pub st : List Slot
  st = h.ready.first.slots

  abbrev Known : ℕ → Type 0
  Known slot = HasKnown texts tuples heap.objects slot s.calls

  pub one : One → machine.OneValue machine_slots → Known 0
  one law found = let t = law view starts st found in has_known 0 t.top (ap (λ (z : List Slot). slice_get z 0) t.are)

  pub two : Two → machine.TwoValues machine_slots → Known 0 × Known 1
  two law found =
      let t = law view starts st found in
      (has_known 0 t.top (ap (λ (z : List Slot). slice_get z 0) t.are), has_known 1 t.second (ap (λ (z : List Slot). slice_get z 1) t.are))

  pub stored_slots : Stored → machine.Stored machine_slots → OfRunning (λ c. 3 ≤ length c.slots) s.calls
  stored_slots law found = let t = law view starts st found in of_running (λ c. 3 ≤ length c.slots) (let n = ap length t.are in omega (arith, n))

  -- a value that lies in a slot is known
  pub lies_known : (slot : ℕ) (v : Value) → HasValue slot v s.calls → IsKnown texts tuples heap.objects v
  lies_known slot v e = value_known v (all_at (IsKnownSlot h.program heap.objects) st slot (slots.Value v) first_known.slots (subst (HasValue slot v) h.ready.are e))

  -- the running call has the slot that a value lies in
  pub slot_there : (slot : ℕ) (v : Value) → HasValue slot v s.calls → OfRunning (λ c. slot < length c.slots) s.calls
  slot_there slot v e =
      of_running (λ c. slot < length c.slots) (slice_get_within st slot (slots.Value v) (subst (HasValue slot v) h.ready.are e))

  -- where nothing on the heap changes, and it is done
  pub leaves_same : Leaves texts tuples heap heap (Ok tt)
  leaves_same = record { later = record { keeps = λ kind n k. k }; all_told = all_told; stop = tt }
