-- What an instruction comes to in one library.
use Rattle.std.specs.Prelude.{◌≡◌, ℕ, suc, ◌<◌, ◌≤◌, List, Result}
use Rattle.mpy_base.specs.World.{Heap}
use Rattle.mpy_base.specs.Val.{PlainWorld}
use Rattle.frame_moves.specs.arena_heap.declared.value.Value.{Value}
use Rattle.frame_moves.specs.prim_faults.declared.stop.Stop.{Stop}
use Rattle.frame_moves.specs.vm_frames.Calls.{Call}
use Rattle.frame_moves.specs.py_effects.Effect.{Place}
use Rattle.frame_moves.specs.bc_machine.Library.{Item, Library}
use Rattle.frame_moves.specs.bc_machine.State.{State}
use Rattle.frame_moves.specs.Shown.{Tables, running_of, step_of}
use Rattle.frame_moves.specs.Outcomes.{world_of, outcome_of}

module _ (tables : Tables) (library : Library) (item : Item) where
  -- in the world the instruction costs a step for each visit, and then comes to this at its place
  pub record Comes (visits : ℕ) (w : PlainWorld) (old : List Call) (outcome : Place → State) : Type 0 where
    pub pays : (place : Place) (paid : ℕ) → paid < visits → step_of tables library place paid old w item ≡ running_of tables (suc paid) old w
    pub steps : (place : Place) (paid : ℕ) → visits ≤ paid → step_of tables library place paid old w item ≡ outcome place

  -- from the heap before to the heap behind the new calls go on, or the old ones stop, in each world
  abbrev pub ComesTo : (visits : ℕ) → (before behind : Heap Value ℕ) → (old new : List Call) → Result (Unit {0}) Stop → Type 0
  ComesTo visits before behind old new result =
      (w : PlainWorld) → Comes visits (world_of tables w before) old (λ place. outcome_of tables place w behind old new result)
