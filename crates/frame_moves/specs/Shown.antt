-- Calls as the machine's state, and what it is to do a step of the machine on them.
use Rattle.std.specs.Prelude.{◌≡◌, ℕ, suc, List, [], ◌∷◌, map, Bool, Option, Some, refl, slice_get}
use Rattle.prim_raising.specs.mpy_base.Val.{Val, PlainWorld}
use Rattle.prim_raising.specs.prim_faults.py_values.Shown.{truth}
use Rattle.vm_frames.specs.py_effects.Effect.{Place}
use Rattle.prim_raising.specs.prim_faults.arena_heap.declared.value.Value.{Value}
use Rattle.prim_raising.specs.prim_faults.arena_heap.declared.value.StrNo.{StrNo}
use Rattle.prim_raising.specs.prim_faults.arena_heap.declared.value.ConstNo.{ConstNo}
use Rattle.prim_raising.specs.prim_faults.arena_objects.Iterables.{or_nothing}
use Rattle.prim_raising.specs.prim_faults.prim_walks.Plain.{plain}
use Rattle.vm_frames.specs.declared.slot.Slot.{Slot}
use Rattle.vm_frames.specs.declared.slot.Slot.TheVariants as slots
use Rattle.vm_frames.specs.Calls.{Call, OfRunning}
use Rattle.vm_frames.specs.bc_labels.Positions.{position_in}
use Rattle.vm_frames.specs.Views.{View, starts_of, position_of, frame_of}
use Rattle.vm_frames.specs.bc_machine.Library.{Name, Item, Library}
use Rattle.vm_frames.specs.bc_machine.State.{State, Running, Stuck}
use Rattle.vm_frames.specs.bc_machine.Step.{item_step}

-- what numbers stand for: those of strs, of constant tuples and of modules, and the offsets that the instructions of a code
-- of a module start at
pub record Tables : Type 0 where
  pub texts : StrNo → Option (List ℕ)
  pub tuples : ConstNo → Option (List Value)
  pub module_name : ℕ → Name
  pub starts : ℕ → ℕ → List ℕ

module _ (tables : Tables) where
  -- a value as the meaning has it
  abbrev pub value_of : Value → Val
  value_of v = plain tables.texts tables.tuples v

  -- the bytes of a text that lies outside the arena
  abbrev pub text_of : StrNo → Name
  text_of s = or_nothing (tables.texts s)

  -- how a call is seen as a frame
  abbrev pub view_of : View
  view_of = record { plain = value_of; module_name = tables.module_name; starts = tables.starts; exceptions = λ x. refl }

  -- the first of the calls runs, and the others wait. Where there is none, nothing runs
  abbrev pub running_of : (paid : ℕ) → List Call → PlainWorld → State
  running_of paid [] w = Stuck w
  running_of paid (c ∷ cs) w = Running paid (frame_of view_of c) (map (frame_of view_of) cs) w

  -- the machine's step of this instruction, where the first of the calls runs
  abbrev pub step_of : Library → Place → (paid : ℕ) → List Call → PlainWorld → Item → State
  step_of library place paid [] w item = Stuck w
  step_of library place paid (c ∷ cs) w item = item_step library place paid (frame_of view_of c) (map (frame_of view_of) cs) w item

  -- the machine's step of the instruction in this world comes from the old calls to the new ones, with nothing paid on the
  -- next instruction: in each library, at each place, and whatever was paid
  abbrev pub Steps : PlainWorld → Item → (old new : List Call) → Type 0
  Steps w item old new =
      (library : Library) (place : Place) (paid : ℕ) → step_of library place paid old w item ≡ running_of 0 new w

  -- the offset is that of the instruction at the position in the running code
  abbrev pub IsAt : (offset position : ℕ) → List Call → Type 0
  IsAt offset position calls = OfRunning (λ c. position_in (starts_of view_of c) offset ≡ position) calls

  -- the offset is that of the instruction behind the running one
  abbrev pub IsNext : (offset : ℕ) → List Call → Type 0
  IsNext offset calls = OfRunning (λ c. position_in (starts_of view_of c) offset ≡ suc (position_of view_of c)) calls

  -- the call's top slot is a value with this truth
  pub record HasTruth (w : PlainWorld) (b : Bool) (c : Call) : Type 0 where
    pub value : Value
    pub top : slice_get c.slots 0 ≡ Some (slots.Value value)
    pub truth_is : truth w.heap (value_of value) ≡ b

  -- the running call's top slot is a value with this truth
  abbrev pub Tests : PlainWorld → Bool → List Call → Type 0
  Tests w b calls = OfRunning (HasTruth w b) calls

-- this is the running call's top slot
abbrev pub IsTop : Slot → List Call → Type 0
IsTop s calls = OfRunning (λ c. slice_get c.slots 0 ≡ Some s) calls
