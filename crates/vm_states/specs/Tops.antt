-- Kinds of slots on top of a call, the topmost first, and what lies below them.
use Rattle.std.specs.Prelude.{◌≡◌, ℕ, ◌≤◌, List, ◌∷◌, ◌++◌, length, map, Bool, true, false, Some, None, nat_le}
use Rattle.frame_exits.specs.mpy_base.declared.builtin.Builtin.{Builtin}
use Rattle.frame_exits.specs.mpy_base.Val.{Nil, Built, At}
use Rattle.frame_exits.specs.arena_heap.declared.value.Value.{Value}
use Rattle.frame_exits.specs.vm_frames.declared.slot.Slot.{Slot}
use Rattle.frame_exits.specs.vm_frames.declared.slot.Slot.TheVariants as slots
use Rattle.frame_exits.specs.vm_frames.declared.slot.Entry.{Entry}
use Rattle.frame_exits.specs.bc_labels.Positions.{position_in}
use Rattle.frame_exits.specs.vm_frames.Views.{View}
use Rattle.vm_states.specs.Topmost.{One, Two, Three}

-- a value
pub record OneValue (st : List Slot) : Type 0 where
  pub top : Value
  pub below : List Slot
  pub are : st ≡ slots.Value top ∷ below

-- two values
pub record TwoValues (st : List Slot) : Type 0 where
  pub top : Value
  pub second : Value
  pub below : List Slot
  pub are : st ≡ slots.Value top ∷ slots.Value second ∷ below

-- three values
pub record ThreeValues (st : List Slot) : Type 0 where
  pub top : Value
  pub second : Value
  pub third : Value
  pub below : List Slot
  pub are : st ≡ slots.Value top ∷ slots.Value second ∷ slots.Value third ∷ below

-- values on what is such
pub record Values (count : ℕ) (Holds : List Slot → Type 0) (st : List Slot) : Type 0 where
  pub values : List Value
  pub below : List Slot
  pub are : st ≡ map slots.Value values ++ below
  pub many : length values ≡ count
  pub holds : Holds below

-- any slots, or none
abbrev pub Anything : List Slot → Type 0
Anything st = Unit {0}

-- a value, or the empty slot
pub data IsOperand : Slot → Type 0 where
  value : (v : Value) → IsOperand (slots.Value v)
  null : IsOperand slots.Null

-- a value, or a slot of an iterator
pub data IsDropped : Slot → Type 0 where
  value : (v : Value) → IsDropped (slots.Value v)
  iterator : (over : Value) (at part : ℕ) → IsDropped (slots.Iter over at part)

-- a slot that may be dropped: a value, or one of an iterator
abbrev pub OneDropped : List Slot → Type 0
OneDropped = One IsDropped

-- two slots, each a value or empty
abbrev pub TwoOperands : List Slot → Type 0
TwoOperands = Two IsOperand

-- three such slots
abbrev pub ThreeOperands : List Slot → Type 0
ThreeOperands = Three IsOperand

-- an index and a container on a value that goes in, or on the empty slot
pub record Stored (st : List Slot) : Type 0 where
  pub index : Value
  pub container : Value
  pub third : Slot
  pub below : List Slot
  pub are : st ≡ slots.Value index ∷ slots.Value container ∷ third ∷ below
  pub is : IsOperand third

-- the empty slot on a value
pub record Defaults (st : List Slot) : Type 0 where
  pub value : Value
  pub below : List Slot
  pub are : st ≡ slots.Null ∷ slots.Value value ∷ below

-- the four slots of an iterator, of which the topmost says where it is
pub record Iterator (st : List Slot) : Type 0 where
  pub over : Value
  pub at : ℕ
  pub second : Slot
  pub third : Slot
  pub fourth : Slot
  pub below : List Slot
  pub are : st ≡ slots.Iter over at 3 ∷ second ∷ third ∷ fourth ∷ below

-- the innermost entry is that of an except
pub record Except (entries : List Entry) : Type 0 where
  pub entry : Entry
  pub others : List Entry
  pub entries_are : entries ≡ entry ∷ others
  pub is_except : entry.is_finally ≡ false

module _ (view : View) where
  -- a method and its object, or a value to be called without one
  pub data IsLooked : List Slot → Type 0 where
    bound : (object method : Value) (builtin : Builtin) (below : List Slot) → view.plain method ≡ Built builtin
        → IsLooked (slots.Object (Some object) ∷ slots.Value method ∷ below)
    free : (v : Value) (below : List Slot) → IsLooked (slots.Object None ∷ slots.Value v ∷ below)

  -- what a finally has kept, where `entries` entries lie below its own: nothing, an exception, a return, or a jump out of no
  -- more entries than there are
  pub data IsCause (entries : ℕ) : Slot → Type 0 where
    nothing : (v : Value) → view.plain v ≡ Nil → IsCause entries (slots.Value v)
    exception : (v : Value) (x : ℕ) → view.plain v ≡ At x → IsCause entries (slots.Value v)
    returned : (v : Value) → IsCause entries (slots.Return v)
    jump : (target count : ℕ) (takes_iterator : Bool) → count ≤ entries → IsCause entries (slots.Jump target count takes_iterator)

  -- the cause, over an entry that is active at the position
  pub record Ending (starts : List ℕ) (position : ℕ) (st : List Slot) (entries : List Entry) : Type 0 where
    pub cause : Slot
    pub below : List Slot
    pub slots_are : st ≡ cause ∷ below
    pub entry : Entry
    pub others : List Entry
    pub entries_are : entries ≡ entry ∷ others
    pub active : nat_le (position_in starts entry.handler) position ≡ true
    pub is : IsCause (length others) cause
