-- What a call over an arena does to a world.
use Rattle.std.specs.Prelude.{◌≡◌, ℕ, List, Option, Result, Ok, Err}
use Rattle.mpy_base.specs.World.{Heap, Objects, ADict, AModule, IsA}
use Rattle.mpy_base.specs.Val.{Val, PlainWorld}
use Rattle.prim_assignments.specs.arena_heap.declared.value.Value.{Value}
use Rattle.prim_assignments.specs.arena_heap.declared.value.StrNo.{StrNo}
use Rattle.prim_assignments.specs.arena_heap.declared.value.ConstNo.{ConstNo}
use Rattle.py_effects.specs.py_primitives.Outcome as primitives
use Rattle.py_effects.specs.Effect.{Effect}
use Rattle.py_effects.specs.Modules as plain
use Rattle.prim_assignments.specs.prim_walks.Plain.{plain_heap}
use Rattle.prim_assignments.specs.prim_faults.declared.stop.Stop.{Stop}
use Rattle.prim_assignments.specs.prim_faults.Outcomes.{plain_stop, plain_answer}
use Rattle.prim_assignments.specs.prim_faults.Sights.{world_over}
use Rattle.prim_modules.specs.declared.makings.Made.{Made}
use Rattle.prim_modules.specs.Registry.{Registry, plain_modules, with_entry}

module _ (texts : StrNo → Option (List ℕ)) (tuples : ConstNo → Option (List Value)) where
  -- the same with registered modules
  abbrev pub world_with : PlainWorld → Heap Value ℕ → Registry → PlainWorld
  world_with w heap registry = record w { heap = plain_heap texts tuples heap; modules = plain_modules texts tuples registry }

  -- a call that leaves the new heap in the place of the old one, and answers so, has this effect on each world of the old
  -- heap, which makes no visits
  pub record IsEffect (old new : Heap Value ℕ) (result : Result Value Stop) (effect : PlainWorld → Effect Val) : Type 0 where
    pub answer : (w : PlainWorld) → plain_answer texts tuples new result ≡ (effect (world_over texts tuples w old)).answer
    pub world : (w : PlainWorld) → world_over texts tuples w new ≡ (effect (world_over texts tuples w old)).world
    pub visits : (w : PlainWorld) → (effect (world_over texts tuples w old)).visits ≡ 0

  -- a module that was made, or none
  abbrev pub made_answer : Heap Value ℕ → Result Made Stop → Result plain.Made primitives.Stop
  made_answer heap (Ok made) = Ok (record { number = made.number.cell; names = made.names.cell })
  made_answer heap (Err stop) = Err (plain_stop texts tuples heap stop)

  -- the same of a call that makes a module
  pub record IsMade (old new : Heap Value ℕ) (result : Result Made Stop) (effect : PlainWorld → Effect plain.Made) : Type 0 where
    pub answer : (w : PlainWorld) → made_answer new result ≡ (effect (world_over texts tuples w old)).answer
    pub world : (w : PlainWorld) → world_over texts tuples w new ≡ (effect (world_over texts tuples w old)).world
    pub visits : (w : PlainWorld) → (effect (world_over texts tuples w old)).visits ≡ 0

  -- the same of one that registers it, too
  pub record IsMaking (old new : Heap Value ℕ) (before after : Registry) (result : Result Made Stop) (effect : PlainWorld → Effect plain.Made) : Type 0 where
    pub answer : (w : PlainWorld) → made_answer new result ≡ (effect (world_with w old before)).answer
    pub world : (w : PlainWorld) → world_with w new after ≡ (effect (world_with w old before)).world
    pub visits : (w : PlainWorld) → (effect (world_with w old before)).visits ≡ 0

  -- the same of a call that stores a value by the registered modules
  pub record IsStored (old new : Heap Value ℕ) (registry : Registry) (result : Result Value Stop) (effect : PlainWorld → Effect Val) : Type 0 where
    pub answer : (w : PlainWorld) → plain_answer texts tuples new result ≡ (effect (world_with w old registry)).answer
    pub world : (w : PlainWorld) → world_with w new registry ≡ (effect (world_with w old registry)).world
    pub visits : (w : PlainWorld) → (effect (world_with w old registry)).visits ≡ 0

-- a module and a dict
pub record AreMade (objects : Objects Value ℕ) (made : Made) : Type 0 where
  pub number : IsA objects AModule made.number.cell
  pub names : IsA objects ADict made.names.cell

-- the modules that are registered after a making: one more, where a module was made
abbrev pub registry_after : ℕ → Registry → Result Made Stop → Registry
registry_after name registry (Ok made) = with_entry registry (record { name = name; object = made.number })
registry_after name registry (Err stop) = registry

-- what a making answers, as the answer of a primitive's call
abbrev pub as_value : {A : Type 0} → (A → Value) → Result A Stop → Result Value Stop
as_value value (Ok a) = Ok (value a)
as_value value (Err stop) = Err stop
