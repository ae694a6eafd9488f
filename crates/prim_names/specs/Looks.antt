-- What method calls begin with, over an arena.
use Rattle.std.specs.Prelude.{◌≡◌, ℕ, List, Option, Result, Ok, Err}
use Rattle.mpy_base.specs.World.{Heap, Objects}
use Rattle.mpy_base.specs.Val.{PlainWorld}
use Rattle.prim_methods.specs.arena_heap.declared.value.Value.{Value}
use Rattle.prim_methods.specs.arena_heap.declared.value.StrNo.{StrNo}
use Rattle.prim_methods.specs.arena_heap.declared.value.ConstNo.{ConstNo}
use Rattle.prim_methods.specs.arena_heap.Values.{IsMethodOf}
use Rattle.prim_raising.specs.py_effects.py_primitives.Outcome as primitives
use Rattle.prim_raising.specs.py_effects.Effect.{Effect}
use Rattle.prim_raising.specs.py_effects.Names as effects
use Rattle.prim_methods.specs.prim_walks.Plain.{plain}
use Rattle.prim_methods.specs.prim_faults.declared.stop.Stop.{Stop}
use Rattle.prim_methods.specs.prim_faults.declared.stop.Stop.TheVariants as stops
use Rattle.prim_methods.specs.prim_faults.Faults.{IsKnown, IsKnownFault}
use Rattle.prim_methods.specs.prim_faults.Outcomes.{plain_stop}
use Rattle.prim_methods.specs.prim_faults.Sights.{Sight, sight_of as sight, world_over}
use Rattle.prim_names.specs.declared.attributes.Looked.{Looked}
use Rattle.prim_names.specs.declared.attributes.Looked.TheVariants as looks

module _ (texts : StrNo → Option (List ℕ)) (tuples : ConstNo → Option (List Value)) where
  -- what a look-up left on the slots, as the meaning has it
  abbrev pub plain_looked : Looked → effects.Looked
  plain_looked (looks.Bound method object) = effects.Bound method (plain texts tuples object)
  plain_looked (looks.Free v) = effects.Free (plain texts tuples v)

  -- the answer of a look-up, as the meaning has it
  abbrev pub plain_look : Heap Value ℕ → Result Looked Stop → Result effects.Looked primitives.Stop
  plain_look heap (Ok looked) = Ok (plain_looked looked)
  plain_look heap (Err stop) = Err (plain_stop texts tuples heap stop)

  -- the values of an answer are known, and a method is one of its object
  abbrev pub IsKnownLook : Objects Value ℕ → Result Looked Stop → Type 0
  IsKnownLook objects (Ok (looks.Bound method object)) = IsKnown texts tuples objects object × IsMethodOf method object
  IsKnownLook objects (Ok (looks.Free v)) = IsKnown texts tuples objects v
  IsKnownLook objects (Err (stops.Raises fault)) = IsKnownFault texts tuples objects fault
  IsKnownLook objects (Err (stops.Full e)) = Unit {0}

  -- a call that answers so and changes nothing does what the effect does, without visits
  pub record Looks (arena : Heap Value ℕ) (result : Result Looked Stop) (effect : PlainWorld → Sight → Effect effects.Looked) : Type 0 where
    pub answer : (w : PlainWorld) → plain_look arena result ≡ (effect (world_over texts tuples w arena) (sight texts tuples)).answer
    pub world : (w : PlainWorld) → world_over texts tuples w arena ≡ (effect (world_over texts tuples w arena) (sight texts tuples)).world
    pub visits : (w : PlainWorld) → (effect (world_over texts tuples w arena) (sight texts tuples)).visits ≡ 0
    pub known : IsKnownLook arena.objects result
