-- Kinds of slots on top, the topmost first, and what lies below them.
use Rattle.std.specs.Prelude.{◌≡◌, ℕ, ◌≤◌, List, ◌∷◌, ◌++◌, length, map, Bool, true, false, Some, None}
use Rattle.frame_exits.specs.mpy_base.declared.builtin.Builtin.{Builtin}
use Rattle.frame_exits.specs.mpy_base.Val.{Val, Nil, Built, At}
use Rattle.bc_progress.specs.bc_machine.State.{Slot, Value, Null, Object, Iter, KeptReturn, KeptJump, Entry}
use Rattle.vm_states.specs.Topmost.{One, Two, Three}

-- a value
pub record OneValue (slots : List Slot) : Type 0 where
  pub top : Val
  pub below : List Slot
  pub are : slots ≡ Value top ∷ below

-- two values
pub record TwoValues (slots : List Slot) : Type 0 where
  pub top : Val
  pub second : Val
  pub below : List Slot
  pub are : slots ≡ Value top ∷ Value second ∷ below

-- three values
pub record ThreeValues (slots : List Slot) : Type 0 where
  pub top : Val
  pub second : Val
  pub third : Val
  pub below : List Slot
  pub are : slots ≡ Value top ∷ Value second ∷ Value third ∷ below

-- values on what is such
pub record Values (count : ℕ) (Holds : List Slot → Type 0) (slots : List Slot) : Type 0 where
  pub values : List Val
  pub below : List Slot
  pub are : slots ≡ map Value values ++ below
  pub many : length values ≡ count
  pub holds : Holds below

-- any slots, or none
abbrev pub Anything : List Slot → Type 0
Anything slots = Unit {0}

-- a value, or the empty slot
pub data IsOperand : Slot → Type 0 where
  value : (v : Val) → IsOperand (Value v)
  null : IsOperand Null

-- a value, or a slot of an iterator
pub data IsDropped : Slot → Type 0 where
  value : (v : Val) → IsDropped (Value v)
  iterator : (over : Val) (at part : ℕ) → IsDropped (Iter over at part)

-- a slot that may be dropped: a value, or one of an iterator
abbrev pub OneDropped : List Slot → Type 0
OneDropped = One IsDropped

-- two slots, each a value or empty
abbrev pub TwoOperands : List Slot → Type 0
TwoOperands = Two IsOperand

-- three such slots
abbrev pub ThreeOperands : List Slot → Type 0
ThreeOperands = Three IsOperand

-- an index and a container on a value that goes in, or on the empty slot
pub record Stored (slots : List Slot) : Type 0 where
  pub index : Val
  pub container : Val
  pub third : Slot
  pub below : List Slot
  pub are : slots ≡ Value index ∷ Value container ∷ third ∷ below
  pub is : IsOperand third

-- the empty slot on a value
pub record Defaults (slots : List Slot) : Type 0 where
  pub value : Val
  pub below : List Slot
  pub are : slots ≡ Null ∷ Value value ∷ below

-- a method and its object, or a value to be called without one
pub data IsLooked : List Slot → Type 0 where
  bound : (object : Val) (method : Builtin) (below : List Slot) → IsLooked (Object (Some object) ∷ Value (Built method) ∷ below)
  free : (v : Val) (below : List Slot) → IsLooked (Object None ∷ Value v ∷ below)

-- the four slots of an iterator, of which the topmost says where it is
pub record Iterator (slots : List Slot) : Type 0 where
  pub over : Val
  pub at : ℕ
  pub second : Slot
  pub third : Slot
  pub fourth : Slot
  pub below : List Slot
  pub are : slots ≡ Iter over at 3 ∷ second ∷ third ∷ fourth ∷ below

-- what a finally has kept, where `entries` entries lie below its own: nothing, an exception, a return, or a jump out of no
-- more entries than there are
pub data IsCause (entries : ℕ) : Slot → Type 0 where
  nothing : IsCause entries (Value Nil)
  exception : (x : ℕ) → IsCause entries (Value (At x))
  returned : (v : Val) → IsCause entries (KeptReturn v)
  jump : (target count : ℕ) (takes_iterator : Bool) → count ≤ entries → IsCause entries (KeptJump target count takes_iterator)

-- the cause, over an active entry
pub record Ending (slots : List Slot) (entries : List Entry) : Type 0 where
  pub cause : Slot
  pub below : List Slot
  pub slots_are : slots ≡ cause ∷ below
  pub entry : Entry
  pub others : List Entry
  pub entries_are : entries ≡ entry ∷ others
  pub active : entry.active ≡ true
  pub is : IsCause (length others) cause

-- the innermost entry is that of an except
pub record Except (entries : List Entry) : Type 0 where
  pub entry : Entry
  pub others : List Entry
  pub entries_are : entries ≡ entry ∷ others
  pub is_except : entry.is_finally ≡ false
