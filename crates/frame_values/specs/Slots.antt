-- What instructions take from the slots of the running call and put there, counted from the top.
use Rattle.std.specs.Prelude.{◌≡◌, ℕ, List, ◌∷◌, ◌++◌, length, map, drop, Option, Some, None, IfSome, All, Result, Ok, Err, slice_get, slice_set}
use Rattle.frame_moves.specs.mpy_base.World.{Objects}
use Rattle.prim_names.specs.arena_heap.declared.value.Value.{Value}
use Rattle.prim_names.specs.arena_heap.declared.value.Value.TheVariants as values
use Rattle.prim_names.specs.arena_heap.declared.value.StrNo.{StrNo}
use Rattle.prim_names.specs.arena_heap.declared.value.ConstNo.{ConstNo}
use Rattle.prim_names.specs.prim_faults.declared.stop.Stop.{Stop}
use Rattle.prim_names.specs.prim_faults.Faults.{IsKnown}
use Rattle.prim_names.specs.declared.attributes.Looked.{Looked}
use Rattle.prim_names.specs.declared.attributes.Looked.TheVariants as looks
use Rattle.prim_names.specs.Looks.{IsKnownLook}
use Rattle.frame_moves.specs.vm_frames.declared.slot.Slot.{Slot}
use Rattle.frame_moves.specs.vm_frames.declared.slot.Slot.TheVariants as slots
use Rattle.frame_moves.specs.vm_frames.Calls.{Call, Calls, OfRunning, on_running}
use Rattle.frame_moves.specs.Stacks.{gone}

-- this value lies in the running call's slot
abbrev pub HasValue : (slot : ℕ) → Value → List Call → Type 0
HasValue slot v calls = OfRunning (λ c. slice_get c.slots slot ≡ Some (slots.Value v)) calls

-- no value lies in the running call's slot
abbrev pub HasNull : (slot : ℕ) → List Call → Type 0
HasNull slot calls = OfRunning (λ c. slice_get c.slots slot ≡ Some slots.Null) calls

-- the running call goes on at the offset, with a value in the place of as many slots as are taken
abbrev pub with_value : (end taken : ℕ) → Value → Call → Call
with_value end taken v c = gone end (slots.Value v ∷ drop taken c.slots) c

-- the running call goes on at the offset without the slots that are taken
abbrev pub without : (end taken : ℕ) → Call → Call
without end taken c = gone end (drop taken c.slots) c

-- the running call goes on at the offset, with a local that is empty
abbrev pub with_empty : (n end : ℕ) → Call → Call
with_empty n end c = record c { at = end; locals = slice_set c.locals n None }

-- what a method call begins with, over slots
abbrev pub looked_over : Looked → List Slot → List Slot
looked_over (looks.Bound method object) st = slots.Object (Some object) ∷ slots.Value (values.Built method) ∷ st
looked_over (looks.Free v) st = slots.Object None ∷ slots.Value v ∷ st

-- the running call goes on at the offset, with what a method call begins with in the place of the top slot
abbrev pub with_looked : (end : ℕ) → Looked → Call → Call
with_looked end looked c = gone end (looked_over looked (drop 1 c.slots)) c

-- the four slots of an iterator, over slots
abbrev pub iterator_over : Value → (at : ℕ) → List Slot → List Slot
iterator_over over at st = slots.Iter over at 3 ∷ slots.Iter over at 2 ∷ slots.Iter over at 1 ∷ slots.Iter over at 0 ∷ st

-- the running call goes on at the offset, with an iterator at its beginning in the place of the top slot
abbrev pub with_iterator : (end : ℕ) → Value → Call → Call
with_iterator end over c = gone end (iterator_over over 0 (drop 1 c.slots)) c

-- the running call goes on at the offset, with the iterator at this place, and a value on top
abbrev pub with_item : (end : ℕ) → (over : Value) → (at : ℕ) → Value → Call → Call
with_item end over at v c = gone end (slots.Value v ∷ iterator_over over at (drop 4 c.slots)) c

-- the running call goes on at the offset, with values in the place of the top slot, the first on top
abbrev pub with_values : (end : ℕ) → List Value → Call → Call
with_values end vs c = gone end (map slots.Value vs ++ drop 1 c.slots) c

-- an iterator over this, at this place, lies on top of the running call's slots
abbrev pub IsIterator : (over : Value) → (at : ℕ) → List Call → Type 0
IsIterator over at calls = (part : ℕ) × OfRunning (λ c. slice_get c.slots 0 ≡ Some (slots.Iter over at part)) calls

-- the running call changes where the instruction is done, and where it stops the calls stay
abbrev pub Changes : (Call → Call) → (old new : Calls) → Result (Unit {0}) Stop → Type 0
Changes change old new (Ok done) = new ≡ on_running change old
Changes change old new (Err stop) = new ≡ old

module _ (texts : StrNo → Option (List ℕ)) (tuples : ConstNo → Option (List Value)) where
  -- a known value lies in the running call's slot
  abbrev pub HasKnown : Objects Value ℕ → (slot : ℕ) → List Call → Type 0
  HasKnown objects slot calls = (v : Value) × HasValue slot v calls × IsKnown texts tuples objects v

  -- the running call has the local, which is empty or a known value
  abbrev pub HasLocal : Objects Value ℕ → (n : ℕ) → List Call → Type 0
  HasLocal objects n calls = (local : Option Value) × OfRunning (λ c. slice_get c.locals n ≡ Some local) calls × IfSome local (IsKnown texts tuples objects)

  -- the running call changes by a known value where the instruction is done, and where it stops the calls stay
  abbrev pub Puts : Objects Value ℕ → (Value → Call → Call) → (old new : Calls) → Result (Unit {0}) Stop → Type 0
  Puts objects change old new (Ok done) = (v : Value) × IsKnown texts tuples objects v × (new ≡ on_running (change v) old)
  Puts objects change old new (Err stop) = new ≡ old

  -- what a method call begins with is put in the running call where the instruction is done, and where it stops the calls stay
  abbrev pub PutsLooked : Objects Value ℕ → (end : ℕ) → (old new : Calls) → Result (Unit {0}) Stop → Type 0
  PutsLooked objects end old new (Ok done) = (looked : Looked) × IsKnownLook texts tuples objects (Ok looked) × (new ≡ on_running (with_looked end looked) old)
  PutsLooked objects end old new (Err stop) = new ≡ old

  -- `count` known values are put in the place of the top slot where the instruction is done, and where it stops the calls stay
  abbrev pub PutsValues : Objects Value ℕ → (end count : ℕ) → (old new : Calls) → Result (Unit {0}) Stop → Type 0
  PutsValues objects end count old new (Ok done) = (vs : List Value) × (length vs ≡ count) × All (IsKnown texts tuples objects) vs
      × (new ≡ on_running (with_values end vs) old)
  PutsValues objects end count old new (Err stop) = new ≡ old

  -- an iterator over a known value lies on top
  abbrev pub HasIterator : Objects Value ℕ → List Call → Type 0
  HasIterator objects calls = (over : Value) × (at : ℕ) × IsIterator over at calls × IsKnown texts tuples objects over
