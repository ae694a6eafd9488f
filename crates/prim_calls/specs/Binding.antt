-- The binding of arguments over an arena.
use Rattle.std.specs.Prelude.{◌≡◌, ℕ, List, map, Option, Result, Ok, Err, IfSome, All}
use Rattle.std.specs.Option.{option_map}
use Rattle.mpy_base.specs.World.{Heap, Objects}
use Rattle.mpy_base.specs.Val.{Val, PlainWorld}
use Rattle.prim_methods.specs.arena_heap.declared.value.Value.{Value}
use Rattle.prim_methods.specs.arena_heap.declared.value.StrNo.{StrNo}
use Rattle.prim_methods.specs.arena_heap.declared.value.ConstNo.{ConstNo}
use Rattle.prim_methods.specs.arena_objects.Iterables.{or_nothing}
use Rattle.prim_types.specs.py_primitives.Faults as plain
use Rattle.prim_types.specs.py_primitives.Outcome.{Stop, Raises}
use Rattle.prim_outputs.specs.py_effects.Effect.{Effect}
use Rattle.prim_outputs.specs.py_effects.Names.{Locals}
use Rattle.prim_methods.specs.prim_walks.Plain.{plain as plain_value}
use Rattle.prim_methods.specs.prim_faults.declared.fault.Fault.{Fault}
use Rattle.prim_methods.specs.prim_faults.Faults.{plain_fault, IsKnown, IsKnownFault}
use Rattle.prim_methods.specs.prim_faults.Sights.{world_over}

-- the bytes of a name
abbrev pub name_text : (StrNo → Option (List ℕ)) → StrNo → List ℕ
name_text texts name = or_nothing (texts name)

-- the slots, or the fault as a stop
abbrev pub bound_answer : Result Locals plain.Fault → Result Locals Stop
bound_answer (Ok slots) = Ok slots
bound_answer (Err fault) = Err (Raises fault)

module _ (texts : StrNo → Option (List ℕ)) (tuples : ConstNo → Option (List Value)) where
  -- a slot as the meaning has it
  abbrev pub plain_slot : Option Value → Option Val
  plain_slot slot = option_map (plain_value texts tuples) slot

  -- the slots as the meaning has them
  abbrev pub plain_slots : List (Option Value) → Locals
  plain_slots slots = map plain_slot slots

  -- slots whose values are known
  abbrev pub AreKnown : Objects Value ℕ → List (Option Value) → Type 0
  AreKnown objects slots = All (λ slot. IfSome slot (IsKnown texts tuples objects)) slots

  -- the slots that are left, or the fault
  abbrev pub plain_bound : Heap Value ℕ → List (Option Value) → Result (Unit {0}) Fault → Result Locals plain.Fault
  plain_bound heap slots (Ok done) = Ok (plain_slots slots)
  plain_bound heap slots (Err fault) = Err (plain_fault texts tuples heap fault)

  -- a binding that leaves these slots, and answers so, has this effect on each world of the heap: it changes nothing of the
  -- world, and makes no visits
  pub record IsBound (heap : Heap Value ℕ) (slots : List (Option Value)) (result : Result (Unit {0}) Fault) (effect : PlainWorld → Effect Locals) : Type 0 where
    pub answer : (w : PlainWorld) → bound_answer (plain_bound heap slots result) ≡ (effect (world_over texts tuples w heap)).answer
    pub world : (w : PlainWorld) → (effect (world_over texts tuples w heap)).world ≡ world_over texts tuples w heap
    pub visits : (w : PlainWorld) → (effect (world_over texts tuples w heap)).visits ≡ 0

  -- the values of the slots are known, or those of the fault
  abbrev pub IsKnownBound : Objects Value ℕ → List (Option Value) → Result (Unit {0}) Fault → Type 0
  IsKnownBound objects slots (Ok done) = AreKnown objects slots
  IsKnownBound objects slots (Err fault) = IsKnownFault texts tuples objects fault
