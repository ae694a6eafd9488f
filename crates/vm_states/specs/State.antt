-- Calls that run a program over an arena.
use Rattle.std.specs.Prelude.{ℕ, length, Option, IfSome, All}
use Rattle.frame_exits.specs.mpy_base.World.{Objects}
use Rattle.frame_exits.specs.arena_heap.declared.value.Value.{Value}
use Rattle.frame_exits.specs.arena_objects.Keys.{AllTold}
use Rattle.frame_exits.specs.prim_faults.Faults.{IsKnown}
use Rattle.frame_exits.specs.vm_frames.declared.slot.Slot.{Slot}
use Rattle.frame_exits.specs.vm_frames.Calls.{Call, Calls}
use Rattle.frame_exits.specs.Known as known
use Rattle.vm_states.specs.Means.{Program}
use Rattle.vm_states.specs.Running.{IsRunning}

module _ (p : Program) (objects : Objects Value ℕ) where
  -- a value, a slot and a call of the program are known: they lead to these objects, and their texts and tuples are told
  abbrev pub IsKnownValue : Value → Type 0
  IsKnownValue v = IsKnown p.tables.texts p.tables.tuples objects v

  -- a slot is known
  abbrev pub IsKnownSlot : Slot → Type 0
  IsKnownSlot slot = known.IsKnownSlot p.tables.texts p.tables.tuples objects slot

  -- a local is empty, or its value is known
  abbrev pub IsKnownLocal : Option Value → Type 0
  IsKnownLocal local = IfSome local (IsKnown p.tables.texts p.tables.tuples objects)

  -- a call is known
  abbrev pub IsKnownCall : Call → Type 0
  IsKnownCall c = known.IsKnownCall p.tables.texts p.tables.tuples (length p.shelf.modules) objects c

  -- the calls run the program, all that lies in them is known, and what the objects hold is told
  pub record IsState (s : Calls) : Type 0 where
    pub running : IsRunning p s
    pub known : All IsKnownCall s.calls
    pub all_told : AllTold p.tables.texts p.tables.tuples objects
