-- What finallys keep, and go on with at their ends.
use Rattle.std.specs.Prelude.{◌≤◌, ℕ, List, [], ◌∷◌, map, drop, length}
use Rattle.mpy_base.specs.Val.{PlainWorld}
use Rattle.frame_moves.specs.arena_heap.declared.value.Value.{Value}
use Rattle.frame_moves.specs.arena_heap.declared.value.Value.TheVariants as values
use Rattle.frame_moves.specs.bc_labels.Positions.{Starts}
use Rattle.frame_moves.specs.bc_machine.State.{State, Stuck, resume}
use Rattle.frame_moves.specs.vm_frames.declared.slot.Slot.{Slot}
use Rattle.frame_moves.specs.vm_frames.declared.slot.Slot.TheVariants as slots
use Rattle.frame_moves.specs.vm_frames.Calls.{Call, change_first}
use Rattle.frame_moves.specs.vm_frames.Moves.{jumped}
use Rattle.frame_moves.specs.vm_frames.Views.{View, slot_of, starts_of, frame_of}
use Rattle.frame_moves.specs.Shown.{Tables, view_of}
use Rattle.frame_exits.specs.declared.causes.Cause.{Cause}
use Rattle.frame_exits.specs.declared.causes.Cause.TheVariants as causes
use Rattle.frame_exits.specs.Left.{left}
use Rattle.frame_exits.specs.Thrown.{thrown}

-- a value that a finally keeps
abbrev pub IsCause : Value → Type 0
IsCause values.None = Unit {0}
IsCause (values.Exc x) = Unit {0}
IsCause _ = ⊥

-- a slot that keeps a cause
abbrev pub KeepsCause : Slot → Type 0
KeepsCause (slots.Value v) = IsCause v
KeepsCause (slots.Return v) = Unit {0}
KeepsCause (slots.Jump target count iterator) = Unit {0}
KeepsCause slots.Null = ⊥
KeepsCause (slots.Object o) = ⊥
KeepsCause (slots.Iter over at part) = ⊥

-- the slot that keeps the cause
abbrev pub cause_slot : Cause → Slot
cause_slot causes.Nothing = slots.Value values.None
cause_slot (causes.Exception x) = slots.Value (values.Exc x)
cause_slot (causes.Return v) = slots.Return v
cause_slot (causes.Jump target count iterator) = slots.Jump target count iterator

-- a jump leaves no more entries than there are
abbrev pub FitsEntries : Cause → Call → Type 0
FitsEntries causes.Nothing c = Unit {0}
FitsEntries (causes.Exception x) c = Unit {0}
FitsEntries (causes.Return v) c = Unit {0}
FitsEntries (causes.Jump target count iterator) c = count ≤ length c.entries

-- an instruction starts where the call goes on: at the end, or at the target of a jump
abbrev pub GoesOn : View → ℕ → Cause → Call → Type 0
GoesOn view end causes.Nothing c = Starts (starts_of view c) end
GoesOn view end (causes.Exception x) c = Unit {0}
GoesOn view end (causes.Return v) c = Unit {0}
GoesOn view end (causes.Jump target count iterator) c = Starts (starts_of view c) target

-- without the innermost entry and the top slot
abbrev pub unkept : Call → Call
unkept c = record c { slots = drop 1 c.slots; entries = drop 1 c.entries }

-- the calls where they go on with the cause, at the end if there is none
abbrev pub resumed : Cause → (end : ℕ) → List Call → List Call
resumed causes.Nothing end calls = change_first (λ c. record c { at = end }) calls
resumed (causes.Exception x) end calls = thrown x calls
resumed (causes.Return v) end calls = left v calls
resumed (causes.Jump target count iterator) end calls = change_first (λ c. (jumped target count iterator c.entries c.slots c).call) calls

-- the machine goes on with the cause in the first of the calls
abbrev pub resuming_of : Tables → Cause → List Call → PlainWorld → State
resuming_of tables cause [] w = Stuck w
resuming_of tables cause (c ∷ cs) w =
    let frame = frame_of (view_of tables) c in
    resume (slot_of (view_of tables) (starts_of (view_of tables) c) (cause_slot cause)) frame.slots frame.entries frame (map (frame_of (view_of tables)) cs) w
