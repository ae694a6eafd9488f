-- What an instruction finds that was fetched for the first of the calls of a program.
use Rattle.std.proofs.Common.{◌≡◌, ℕ, ◌+◌, ◌-◌, ◌<◌, ◌≤◌, List, length, Option, Some, None, Ok, All, sym, ap, subst, ◌∙◌, arith}
use Rattle.std.specs.Prelude.{IfSome, IsSome, slice_get, get_or}
use Rattle.std.proofs.lemmas.List.Elements.{All-head, All-get_or}
use Rattle.std.proofs.lemmas.Option.{slice_get_within, slice_get-get_or, get_or_from_slice_get}
use Rattle.vm_states.specs.mpy_base.World.{Heap, ADict, IsA}
use Rattle.vm_states.specs.prim_names.arena_heap.declared.value.Value.{Value}
use Rattle.vm_states.specs.prim_names.arena_heap.declared.value.StrNo.{StrNo}
use Rattle.vm_states.specs.prim_names.arena_heap.declared.value.StrNo.TheVariants as strs
use Rattle.vm_states.specs.prim_names.arena_heap.declared.value.ConstNo.{ConstNo}
use Rattle.vm_states.specs.prim_names.arena_objects.Keys.{AllTold}
use Rattle.vm_states.specs.bc_library.Constants.{text_at}
use Rattle.vm_states.specs.bc_machine.State as states
use Rattle.vm_states.specs.prim_names.prim_faults.Faults.{IsKnown}
use Rattle.vm_states.specs.vm_frames.declared.slot.Slot.{Slot}
use Rattle.vm_states.specs.vm_frames.declared.slot.Slot.TheVariants as slots
use Rattle.vm_states.specs.vm_frames.Calls.{Call, Calls, OfRunning}
use Rattle.vm_states.specs.vm_frames.Views.{View, slots_of, starts_of, frame_of}
use Rattle.vm_states.specs.frame_moves.Shown.{view_of}
use Rattle.vm_states.specs.OnTop as machine
use Rattle.vm_states.specs.Tops as tops
use Rattle.vm_states.specs.frame_values.Slots.{HasValue, HasKnown, HasLocal}
use Rattle.vm_states.specs.frame_values.Effects.{Leaves}
use Rattle.vm_states.specs.vm_fetching.declared.instruction.Fetched.{Fetched}
use Rattle.state_values.specs.Moving.{Runs}
use Rattle.vm_states.specs.State.{IsKnownSlot, IsKnownLocal, IsKnownCall}
use Rattle.vm_states.specs.Acting.{RunsOver}
use Rattle.state_values.specs.Operands.{HasOperandIn, HasOperand}
use Rattle.state_values.proofs.Doing.{of_texts}

-- what is of all is of the one in a place
pub all_at : {X : Type 0} (P : X → Type 0) (xs : List X) (i : ℕ) (x : X) → All P xs → slice_get xs i ≡ Some x → P x
all_at P xs i x h e = subst P (get_or_from_slice_get xs i x x e) (All-get_or P xs i x (slice_get_within xs i x e) h)

abbrev One : Type 0
One = (view : View) (starts : List ℕ) (st : List Slot) → machine.OneValue (slots_of view starts st) → tops.OneValue st

abbrev Two : Type 0
Two = (view : View) (starts : List ℕ) (st : List Slot) → machine.TwoValues (slots_of view starts st) → tops.TwoValues st

abbrev Three : Type 0
Three = (view : View) (starts : List ℕ) (st : List Slot) → machine.ThreeValues (slots_of view starts st) → tops.ThreeValues st

abbrev Count : Type 0
Count = (view : View) (c : Call) → length (frame_of view c).slots ≡ length c.slots

abbrev Stored : Type 0
Stored = (view : View) (starts : List ℕ) (st : List Slot) → machine.Stored (slots_of view starts st) → tops.Stored st

module _ {texts : StrNo → Option (List ℕ)} {tuples : ConstNo → Option (List Value)} {heap : Heap Value ℕ} {s : Calls} {fetched : Fetched} (h : RunsOver texts tuples heap s fetched) where
  -- the slots of the first of the calls, as the machine has them
  abbrev pub machine_slots : List states.Slot
  machine_slots = slots_of (view_of h.program.tables) (starts_of (view_of h.program.tables) h.ready.first) h.ready.first.slots

  pub all_told : AllTold texts tuples heap.objects
  all_told = of_texts texts tuples h.program h.tells (λ t u. AllTold t u heap.objects) h.state.all_told

  pub first_known : IsKnownCall h.program heap.objects h.ready.first
  first_known = All-head (IsKnownCall h.program heap.objects) h.ready.first h.ready.others (subst (All (IsKnownCall h.program heap.objects)) h.ready.are h.state.known)

  pub of_running : (P : Call → Type 0) → P h.ready.first → OfRunning P s.calls
  of_running P k = subst (OfRunning P) (sym h.ready.are) k

  pub some_run : 0 < length s.calls
  some_run = subst (λ (z : List Call). 0 < length z) (sym h.ready.are) (omega arith)

  pub has_room : OfRunning (λ c. length c.slots < s.slot_room) s.calls
  has_room = of_running (λ c. length c.slots < s.slot_room) h.ready.slots

  pub value_known : (v : Value) → IsKnown h.program.tables.texts h.program.tables.tuples heap.objects v → IsKnown texts tuples heap.objects v
  value_known v k = of_texts texts tuples h.program h.tells (λ t u. IsKnown t u heap.objects v) k

  pub has_known : (slot : ℕ) (v : Value) → slice_get h.ready.first.slots slot ≡ Some (slots.Value v) → HasKnown texts tuples heap.objects slot s.calls
  has_known slot v e =
      (v, of_running (λ c. slice_get c.slots slot ≡ Some (slots.Value v)) e, value_known v (all_at (IsKnownSlot h.program heap.objects) h.ready.first.slots slot (slots.Value v) first_known.slots e))

  pub has_local : (n : ℕ) → n < length h.ready.first.locals → HasLocal texts tuples heap.objects n s.calls
  has_local n less =
      let local = get_or h.ready.first.locals n None in (
        local,
        of_running (λ c. slice_get c.locals n ≡ Some local) (slice_get-get_or h.ready.first.locals n None less),
        of_texts texts tuples h.program h.tells (λ t u. IfSome local (IsKnown t u heap.objects)) (All-get_or (IsKnownLocal h.program heap.objects) h.ready.first.locals n None less first_known.locals),
      )

  pub has_names : OfRunning (λ c. IsA heap.objects ADict c.names.cell) s.calls
  has_names = of_running (λ c. IsA heap.objects ADict c.names.cell) first_known.names

  pub text_told : (text : StrNo) → ((n : ℕ) × (text ≡ strs.Pool n) × IsSome (text_at h.program.shelf text)) → IsSome (texts text)
  text_told text k = subst (λ (t : StrNo → Option (List ℕ)). IsSome (t text)) (sym h.means.constants.texts ∙ h.tells.texts_are) k.2

  pub planned : (h.program.plans (h.program.tables.module_name h.ready.first.module_number) h.ready.first.code).n_state < s.slot_room
  planned = h.state.running.rooms.slots (h.program.tables.module_name h.ready.first.module_number) h.ready.first.code h.ready.code h.ready.code_is

  abbrev pub view : View
  view = view_of h.program.tables

  abbrev pub starts : List ℕ
  starts = starts_of view h.ready.first

  abbrev pub st : List Slot
  st = h.ready.first.slots

  abbrev Known : ℕ → Type 0
  Known slot = HasKnown texts tuples heap.objects slot s.calls

  pub one : One → machine.OneValue machine_slots → Known 0
  one law found = let t = law view starts st found in has_known 0 t.top (ap (λ (z : List Slot). slice_get z 0) t.are)

  pub two : Two → machine.TwoValues machine_slots → Known 0 × Known 1
  two law found =
      let t = law view starts st found in
      (has_known 0 t.top (ap (λ (z : List Slot). slice_get z 0) t.are), has_known 1 t.second (ap (λ (z : List Slot). slice_get z 1) t.are))

  pub three : Three → machine.ThreeValues machine_slots → Known 0 × Known 1 × Known 2
  three law found =
      let t = law view starts st found in
      (has_known 0 t.top (ap (λ (z : List Slot). slice_get z 0) t.are), has_known 1 t.second (ap (λ (z : List Slot). slice_get z 1) t.are), has_known 2 t.third (ap (λ (z : List Slot). slice_get z 2) t.are))

  pub stored : Stored → machine.Stored machine_slots → Known 0 × Known 1 × HasOperand 2 s.calls
  stored law found =
      let t = law view starts st found in (
        has_known 0 t.index (ap (λ (z : List Slot). slice_get z 0) t.are),
        has_known 1 t.container (ap (λ (z : List Slot). slice_get z 1) t.are),
        of_running (HasOperandIn 2) (record { operand = t.third; there = ap (λ (z : List Slot). slice_get z 2) t.are; is = t.is }),
      )

  -- a value that lies in a slot is known
  pub lies_known : (slot : ℕ) (v : Value) → HasValue slot v s.calls → IsKnown texts tuples heap.objects v
  lies_known slot v e = value_known v (all_at (IsKnownSlot h.program heap.objects) st slot (slots.Value v) first_known.slots (subst (HasValue slot v) h.ready.are e))

  pub known_there : (slot : ℕ) (v : Value) → HasValue slot v s.calls → Known slot
  known_there slot v e = (v, e, lies_known slot v e)

  -- the running call has the slot that a value lies in
  pub slot_there : (slot : ℕ) (v : Value) → HasValue slot v s.calls → OfRunning (λ c. slot < length c.slots) s.calls
  slot_there slot v e =
      of_running (λ c. slot < length c.slots) (slice_get_within st slot (slots.Value v) (subst (HasValue slot v) h.ready.are e))

  -- where nothing on the heap changes, and it is done
  pub leaves_same : Leaves texts tuples heap heap (Ok tt)
  leaves_same = record { later = record { keeps = λ kind n k. k }; all_told = all_told; stop = tt }

  -- the calls run the program
  pub runs : Runs s fetched
  runs = record { program = h.program; row = h.row; means = h.means; running = h.state.running; ready = h.ready }

  -- where the code has room for slots in the place of those that are taken, the running call has it
  pub room_for : Count → (taken given : ℕ) → taken ≤ length (frame_of view h.ready.first).slots
      → h.ready.code.locals + (length (frame_of view h.ready.first).slots - taken + given) ≤ (h.program.plans (h.program.tables.module_name h.ready.first.module_number) h.ready.first.code).n_state
      → length st + given < s.slot_room + taken
  room_for count taken given there fits =
      let n = count view h.ready.first in
      let k = planned in
      omega (arith, n, k, there, fits)
