-- What a call over an arena does to a world: what an effect does to a world that has the arena's heap. Modules, ports and
-- output stay as they are.
use Rattle.std.specs.Prelude.{◌≡◌, ℕ, List, Option, Result, Ok, Err, All, IfOk}
use Rattle.mpy_base.specs.declared.room.NoRoom.{NoRoom}
use Rattle.mpy_base.specs.World.{Heap, AnException, IsA, Later}
use Rattle.mpy_base.specs.Val.{Val, PlainWorld}
use Rattle.prim_types.specs.arena_heap.declared.value.Value.{Value}
use Rattle.prim_types.specs.arena_heap.declared.value.StrNo.{StrNo}
use Rattle.prim_types.specs.arena_heap.declared.value.ConstNo.{ConstNo}
use Rattle.prim_types.specs.arena_heap.declared.value.ExcNo.{ExcNo}
use Rattle.prim_types.specs.arena_objects.Keys.{AllTold}
use Rattle.py_effects.specs.Effect.{Effect, Fails, Thrown, Filled}
use Rattle.prim_types.specs.prim_faults.declared.stop.Stop.{Stop}
use Rattle.prim_types.specs.prim_faults.Faults.{IsKnown}
use Rattle.prim_types.specs.prim_faults.Outcomes.{plain_answer, IsKnownAnswer}
use Rattle.prim_types.specs.prim_faults.Sights.{Sight, sight_of, world_over}

-- an exception that is raised, or want of room, with the world behind it
abbrev pub failure : PlainWorld → Result ExcNo NoRoom → Fails
failure w (Ok x) = Thrown x.cell w
failure w (Err room) = Filled room w

module _ (texts : StrNo → Option (List ℕ)) (tuples : ConstNo → Option (List Value)) where
  -- these values, and those that the objects hold, lead to objects and are told
  pub record Stands (arena : Heap Value ℕ) (values : List Value) : Type 0 where
    pub known : All (IsKnown texts tuples arena.objects) values
    pub all_told : AllTold texts tuples arena.objects

  -- a call that leaves the new arena in the place of the old one, and answers so, has this effect on a world: it makes no visits
  pub record HasEffect (old new : Heap Value ℕ) (result : Result Value Stop) (effect : PlainWorld → Sight → Effect Val) : Type 0 where
    pub answer : (w : PlainWorld) → plain_answer texts tuples new result ≡ (effect (world_over texts tuples w old) (sight_of texts tuples)).answer
    pub world : (w : PlainWorld) → world_over texts tuples w new ≡ (effect (world_over texts tuples w old) (sight_of texts tuples)).world
    pub visits : (w : PlainWorld) → (effect (world_over texts tuples w old) (sight_of texts tuples)).visits ≡ 0
    pub known : IsKnownAnswer texts tuples new.objects result
    pub later : Later old.objects new.objects
    pub all_told : AllTold texts tuples new.objects

  -- a call that leaves the new arena in the place of the old one, and gives an exception or finds no room, fails so on a world
  pub record HasFailed (old new : Heap Value ℕ) (result : Result ExcNo NoRoom) (fails : PlainWorld → Sight → Fails) : Type 0 where
    pub failure : (w : PlainWorld) → failure (world_over texts tuples w new) result ≡ fails (world_over texts tuples w old) (sight_of texts tuples)
    pub exception : IfOk result (λ x. IsA new.objects AnException x.cell)
    pub later : Later old.objects new.objects
    pub all_told : AllTold texts tuples new.objects
