-- How the running call changes where an instruction gives a value.
use Rattle.std.specs.Prelude.{◌≡◌, ℕ, List, ◌∷◌, drop, Option, Result, Ok, Err}
use Rattle.mpy_base.specs.World.{Heap, Objects, Later}
use Rattle.frame_moves.specs.arena_heap.declared.value.Value.{Value}
use Rattle.frame_moves.specs.arena_heap.declared.value.StrNo.{StrNo}
use Rattle.frame_moves.specs.arena_heap.declared.value.ConstNo.{ConstNo}
use Rattle.frame_moves.specs.arena_objects.Keys.{AllTold}
use Rattle.frame_moves.specs.prim_faults.declared.stop.Stop.{Stop}
use Rattle.frame_moves.specs.prim_faults.declared.stop.Stop.TheVariants as stops
use Rattle.frame_moves.specs.prim_faults.Faults.{IsKnown, IsKnownFault}
use Rattle.frame_moves.specs.vm_frames.declared.slot.Slot.TheVariants as slots
use Rattle.frame_moves.specs.vm_frames.Calls.{Call, Calls, on_running}
use Rattle.frame_moves.specs.Stacks.{gone}

-- the running call goes on at the offset, with a value in the place of as many slots as are taken
abbrev pub with_value : (end taken : ℕ) → Value → Call → Call
with_value end taken v c = gone end (slots.Value v ∷ drop taken c.slots) c

-- the running call goes on with the value that was given; where none was, the calls stay
abbrev pub put_in : {E : Type 0} → (end taken : ℕ) → Result Value E → Calls → Calls
put_in end taken (Ok v) calls = on_running (with_value end taken v) calls
put_in end taken (Err stop) calls = calls

-- that it was given
abbrev pub done_of : {E : Type 0} → Result Value E → Result (Unit {0}) E
done_of (Ok v) = Ok tt
done_of (Err stop) = Err stop

module _ (texts : StrNo → Option (List ℕ)) (tuples : ConstNo → Option (List Value)) where
  -- a known value is put in the place of the slots that are taken. Where the instruction stops, the calls stay
  abbrev pub Puts : {E : Type 0} → Objects Value ℕ → (end taken : ℕ) → (old new : Calls) → Result (Unit {0}) E → Type 0
  Puts objects end taken old new (Ok done) = (v : Value) × IsKnown texts tuples objects v × (new ≡ on_running (with_value end taken v) old)
  Puts objects end taken old new (Err stop) = new ≡ old

  -- what a stop tells is known
  abbrev pub IsKnownStop : Objects Value ℕ → Result (Unit {0}) Stop → Type 0
  IsKnownStop objects (Ok done) = Unit {0}
  IsKnownStop objects (Err (stops.Raises fault)) = IsKnownFault texts tuples objects fault
  IsKnownStop objects (Err (stops.Full room)) = Unit {0}

  -- the objects stay of their kinds, what they hold is told, and what a stop tells is known
  pub record Leaves (before behind : Heap Value ℕ) (result : Result (Unit {0}) Stop) : Type 0 where
    pub later : Later before.objects behind.objects
    pub all_told : AllTold texts tuples behind.objects
    pub stop : IsKnownStop behind.objects result
