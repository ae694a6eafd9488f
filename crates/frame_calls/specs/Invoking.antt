-- Calls that instructions make: what is called, and with which operands.
use Rattle.std.specs.Prelude.{◌≡◌, ◌⊎◌, ℕ, suc, List, [], ◌∷◌, drop, map, Some, None, slice_get}
use Rattle.mpy_base.specs.declared.builtin.Builtin.{Builtin}
use Rattle.mpy_base.specs.World.{Heap}
use Rattle.mpy_base.specs.Val.{Val, PlainWorld}
use Rattle.frame_moves.specs.arena_heap.declared.value.Value.{Value}
use Rattle.frame_moves.specs.arena_heap.declared.value.Value.TheVariants as values
use Rattle.frame_moves.specs.arena_heap.Values.{IsMethodOf}
use Rattle.frame_moves.specs.py_effects.Calling as plain
use Rattle.frame_moves.specs.py_effects.Calling.{Keys}
use Rattle.frame_moves.specs.py_effects.Effect.{Place}
use Rattle.frame_moves.specs.prim_walks.Plain.{plain_pair}
use Rattle.prim_calls.specs.declared.callees.Callee.{Callee}
use Rattle.prim_calls.specs.Callees.{plain_callee}
use Rattle.frame_moves.specs.vm_frames.declared.slot.Slot.{Slot}
use Rattle.frame_moves.specs.vm_frames.declared.slot.Slot.TheVariants as slots
use Rattle.frame_moves.specs.vm_frames.Calls.{Call}
use Rattle.frame_moves.specs.vm_frames.Views.{slots_of, starts_of, frame_of}
use Rattle.frame_moves.specs.bc_machine.Library.{Item, Library}
use Rattle.frame_moves.specs.bc_machine.State.{State, Stuck}
use Rattle.frame_moves.specs.bc_machine.Step.{run_callee}
use Rattle.frame_moves.specs.Shown.{Tables, value_of, view_of, step_of}
use Rattle.frame_moves.specs.Outcomes.{world_of}

-- the object that a look-up found with its method
pub record IsBound (upper lower : Slot) : Type 0 where
  pub object : Value
  pub method : Builtin
  pub object_is : upper ≡ slots.Object (Some object)
  pub method_is : lower ≡ slots.Value (values.Built method)
  pub of_type : IsMethodOf method object

-- a value that a look-up found without an object
pub record IsFree (upper lower : Slot) : Type 0 where
  pub callee : Value
  pub no_object : upper ≡ slots.Object None
  pub callee_is : lower ≡ slots.Value callee

-- what a look-up found lies below the topmost `above` slots
pub record HasLooked (above : ℕ) (st : List Slot) : Type 0 where
  pub upper : Slot
  pub lower : Slot
  pub upper_there : slice_get st above ≡ Some upper
  pub lower_there : slice_get st (suc above) ≡ Some lower
  pub looked : IsBound upper lower ⊎ IsFree upper lower

module _ (tables : Tables) where
  -- the machine's call of this callee with these arguments, which takes `size` slots of the running call
  abbrev pub calling_of : Library → Place → (paid size : ℕ) → List Call → PlainWorld → plain.Callee → List Value → List (Value × Value) → State
  calling_of library place paid size [] w callee args keys = Stuck w
  calling_of library place paid size (c ∷ cs) w callee args keys =
      run_callee library place paid (frame_of (view_of tables) c) (map (frame_of (view_of tables)) cs) w
      (slots_of (view_of tables) (starts_of (view_of tables) c) (drop size c.slots)) callee (map (value_of tables) args)
      (map (plain_pair tables.texts tables.tuples) keys)

  -- the instruction calls this callee with these arguments, in each library, at each place, in each world, and whatever is paid
  pub record Invokes (item : Item) (size : ℕ) (heap : Heap Value ℕ) (calls : List Call) (args : List Value) (keys : List (Value
      × Value)) (callee : Callee) : Type 0 where
    pub calls_it : (library : Library) (place : Place) (paid : ℕ) (w : PlainWorld)
        → step_of tables library place paid calls (world_of tables w heap) item
        ≡ calling_of library place paid size calls (world_of tables w heap) (plain_callee tables.texts tables.tuples (world_of tables w heap) callee) args keys

-- how many visits a call of a callee makes. A function makes none before it runs
abbrev pub visits_of : plain.Callee → List Val → Keys → ℕ
visits_of (plain.Acts act) args keys = (act args keys).visits
visits_of (plain.Runs f) args keys = 0
