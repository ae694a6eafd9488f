-- What an instruction comes to that may raise, over an arena: the calls go on, or they fail at the instruction's place.
use Rattle.std.specs.Prelude.{◌≡◌, ℕ, suc, ◌<◌, ◌≤◌, List, [], ◌∷◌, map, Result, Ok, Err}
use Rattle.prim_raising.specs.mpy_base.World.{Heap}
use Rattle.prim_raising.specs.mpy_base.Val.{PlainWorld}
use Rattle.prim_raising.specs.prim_faults.arena_heap.declared.value.Value.{Value}
use Rattle.prim_raising.specs.prim_faults.declared.stop.Stop.{Stop}
use Rattle.prim_raising.specs.prim_faults.Outcomes.{plain_stop}
use Rattle.prim_raising.specs.prim_faults.Sights.{world_over}
use Rattle.prim_raising.specs.Places.{stopped_at}
use Rattle.vm_frames.specs.Calls.{Call}
use Rattle.vm_frames.specs.Views.{frame_of}
use Rattle.vm_frames.specs.py_effects.Effect.{Place, Fails, Thrown, Filled}
use Rattle.vm_frames.specs.bc_machine.Library.{Item, Library}
use Rattle.vm_frames.specs.bc_machine.State.{State, Stuck, fail}
use Rattle.frame_moves.specs.Shown.{Tables, view_of, running_of, step_of}

-- the world that a failure leaves
abbrev pub world_behind : Fails → PlainWorld
world_behind (Thrown x w) = w
world_behind (Filled e w) = w

module _ (tables : Tables) where
  -- the world with an arena's heap in the place of its own
  abbrev pub world_of : PlainWorld → Heap Value ℕ → PlainWorld
  world_of w heap = world_over tables.texts tables.tuples w heap

  -- the first of the calls fails so
  abbrev pub failing_of : List Call → Fails → State
  failing_of [] failure = Stuck (world_behind failure)
  failing_of (c ∷ cs) failure = fail failure (frame_of (view_of tables) c) (map (frame_of (view_of tables)) cs)

  -- the first of the calls stops so at the place, in the world with this heap
  abbrev pub stopping_of : Place → PlainWorld → Heap Value ℕ → List Call → Stop → State
  stopping_of place w heap calls stop =
      failing_of calls (stopped_at place (world_of w heap) (plain_stop tables.texts tables.tuples heap stop))

  -- the new calls go on, or the old ones stop
  abbrev pub outcome_of : Place → PlainWorld → Heap Value ℕ → (old new : List Call) → Result (Unit {0}) Stop → State
  outcome_of place w heap old new (Ok done) = running_of tables 0 new (world_of w heap)
  outcome_of place w heap old new (Err stop) = stopping_of place w heap old stop

  -- The instruction costs a step for each visit, and then comes to this: from the heap before and the old calls to the heap
  -- behind and the new calls, or to a stop. In each library, at each place, and in each world
  pub record Does (item : Item) (visits : ℕ) (before behind : Heap Value ℕ) (old new : List Call) (result : Result (Unit {0}) Stop) : Type 0 where
    pub pays : (library : Library) (place : Place) (paid : ℕ) (w : PlainWorld) → paid < visits
        → step_of tables library place paid old (world_of w before) item ≡ running_of tables (suc paid) old (world_of w before)
    pub steps : (library : Library) (place : Place) (paid : ℕ) (w : PlainWorld) → visits ≤ paid
        → step_of tables library place paid old (world_of w before) item ≡ outcome_of place w behind old new result
