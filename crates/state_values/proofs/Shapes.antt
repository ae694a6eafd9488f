-- Shapes in which calls go on.
use Rattle.std.proofs.Common.{◌≡◌, ℕ, List, ◌∷◌, ◌++◌, map, drop, Option, Some, None, All, Result, Ok, Err}
use Rattle.std.specs.Prelude.{IfSome, slice_set}
use Rattle.std.proofs.lemmas.List.Elements.{All-cons, All-drop, All-set, All-append, All-map}
use Rattle.vm_states.specs.mpy_base.World.{Objects}
use Rattle.vm_states.specs.prim_names.arena_heap.declared.value.Value.{Value}
use Rattle.vm_states.specs.prim_names.arena_heap.declared.value.Value.TheVariants as values
use Rattle.vm_states.specs.prim_names.arena_heap.declared.value.StrNo.{StrNo}
use Rattle.vm_states.specs.prim_names.arena_heap.declared.value.ConstNo.{ConstNo}
use Rattle.vm_states.specs.prim_names.prim_faults.declared.stop.Stop.{Stop}
use Rattle.vm_states.specs.prim_names.prim_faults.Faults.{IsKnown}
use Rattle.vm_states.specs.prim_names.declared.attributes.Looked.{Looked}
use Rattle.vm_states.specs.prim_names.declared.attributes.Looked.TheVariants as looks
use Rattle.vm_states.specs.prim_names.Looks.{IsKnownLook}
use Rattle.vm_states.specs.vm_frames.declared.slot.Slot.{Slot}
use Rattle.vm_states.specs.vm_frames.declared.slot.Slot.TheVariants as slots
use Rattle.vm_states.specs.vm_frames.Calls.{Call, Calls, on_running}
use Rattle.vm_states.specs.frame_values.Slots.{with_value, without, with_empty, looked_over, iterator_over, with_iterator, with_item, Changes, Puts, PutsLooked, PutsValues}
use Rattle.vm_states.specs.frame_exits.Known.{IsKnownSlot}
use Rattle.state_values.specs.Onward.{Onward, GoesOnward}

module _ (texts : StrNo → Option (List ℕ)) (tuples : ConstNo → Option (List Value)) (objects : Objects Value ℕ) where
  abbrev Known : Slot → Type 0
  Known s = IsKnownSlot texts tuples objects s

  abbrev KnownLocal : Option Value → Type 0
  KnownLocal v = IfSome v (IsKnown texts tuples objects)

  module _ (old new : Calls) (end : ℕ) where
    -- the slots alone change
    pub slots_onward : (st : Call → List Slot) → ((c : Call) → All Known c.slots → All Known (st c)) → new ≡ on_running (λ c. record c { at = end; slots = st c }) old → Onward texts tuples objects end old new
    slots_onward st known moved = record { slots_of = st; locals_of = λ c. c.locals; moved = moved; slots_known = known; locals_known = λ c k. k }

    pub put : (taken : ℕ) (result : Result (Unit {0}) Stop) → Puts texts tuples objects (with_value end taken) old new result → GoesOnward texts tuples objects end old new result
    put taken (Ok done) h = slots_onward (λ c. slots.Value h.0 ∷ drop taken c.slots) (λ c k. All-cons Known (slots.Value h.0) (drop taken c.slots) h.1 (All-drop Known taken c.slots k)) h.2
    put taken (Err stop) h = h

    pub taken : (count : ℕ) (result : Result (Unit {0}) Stop) → Changes (without end count) old new result → GoesOnward texts tuples objects end old new result
    taken count (Ok done) h = slots_onward (λ c. drop count c.slots) (λ c k. All-drop Known count c.slots k) h
    taken count (Err stop) h = h

    pub emptied : (n : ℕ) (result : Result (Unit {0}) Stop) → Changes (with_empty n end) old new result → GoesOnward texts tuples objects end old new result
    emptied n (Ok done) h = record {
      slots_of = λ c. c.slots;
      locals_of = λ c. slice_set c.locals n None;
      moved = h;
      slots_known = λ c k. k;
      locals_known = λ c k. All-set KnownLocal c.locals n None tt k;
    }
    emptied n (Err stop) h = h

    known_looked : (looked : Looked) (st : List Slot) → IsKnownLook texts tuples objects (Ok looked) → All Known st → All Known (looked_over looked st)
    known_looked (looks.Bound method object) st l k =
        All-cons Known (slots.Object (Some object)) (slots.Value (values.Built method) ∷ st) l.0 (All-cons Known (slots.Value (values.Built method)) st (record { leads = record { meets = tt; small = tt }; told = tt }) k)
    known_looked (looks.Free v) st l k = All-cons Known (slots.Object None) (slots.Value v ∷ st) tt (All-cons Known (slots.Value v) st l k)

    pub looked : (result : Result (Unit {0}) Stop) → PutsLooked texts tuples objects end old new result → GoesOnward texts tuples objects end old new result
    looked (Ok done) h = slots_onward (λ c. looked_over h.0 (drop 1 c.slots)) (λ c k. known_looked h.0 (drop 1 c.slots) h.1 (All-drop Known 1 c.slots k)) h.2
    looked (Err stop) h = h

    known_iterator : (over : Value) (at : ℕ) (st : List Slot) → IsKnown texts tuples objects over → All Known st → All Known (iterator_over over at st)
    known_iterator over at st o k =
        All-cons Known (slots.Iter over at 3) (slots.Iter over at 2 ∷ slots.Iter over at 1 ∷ slots.Iter over at 0 ∷ st) o
        (All-cons Known (slots.Iter over at 2) (slots.Iter over at 1 ∷ slots.Iter over at 0 ∷ st) o
        (All-cons Known (slots.Iter over at 1) (slots.Iter over at 0 ∷ st) o (All-cons Known (slots.Iter over at 0) st o k)))

    pub iterated : (result : Result (Unit {0}) Stop) → Puts texts tuples objects (with_iterator end) old new result → GoesOnward texts tuples objects end old new result
    iterated (Ok done) h = slots_onward (λ c. iterator_over h.0 0 (drop 1 c.slots)) (λ c k. known_iterator h.0 0 (drop 1 c.slots) h.1 (All-drop Known 1 c.slots k)) h.2
    iterated (Err stop) h = h

    pub item : (over : Value) (at : ℕ) (result : Result (Unit {0}) Stop) → IsKnown texts tuples objects over → Puts texts tuples objects (with_item end over at) old new result → GoesOnward texts tuples objects end old new result
    item over at (Ok done) o h =
        slots_onward (λ c. slots.Value h.0 ∷ iterator_over over at (drop 4 c.slots))
        (λ c k. All-cons Known (slots.Value h.0) (iterator_over over at (drop 4 c.slots)) h.1 (known_iterator over at (drop 4 c.slots) o (All-drop Known 4 c.slots k))) h.2
    item over at (Err stop) o h = h

    pub values_put : (count : ℕ) (result : Result (Unit {0}) Stop) → PutsValues texts tuples objects end count old new result → GoesOnward texts tuples objects end old new result
    values_put count (Ok done) h =
        slots_onward (λ c. map slots.Value h.0 ++ drop 1 c.slots)
        (λ c k. All-append Known (map slots.Value h.0) (drop 1 c.slots) (All-map Known slots.Value h.0 h.2) (All-drop Known 1 c.slots k)) h.3
    values_put count (Err stop) h = h
