-- What a primitive's call that gives several values answers, over an arena.
use Rattle.std.specs.Prelude.{◌≡◌, ℕ, List, map, Option, Result, Ok, Err, All}
use Rattle.prim_operators.specs.mpy_base.World.{Heap, Objects, Later}
use Rattle.prim_operators.specs.mpy_base.Val.{Val}
use Rattle.prim_operators.specs.arena_heap.declared.value.Value.{Value}
use Rattle.prim_operators.specs.arena_heap.declared.value.StrNo.{StrNo}
use Rattle.prim_operators.specs.arena_heap.declared.value.ConstNo.{ConstNo}
use Rattle.prim_operators.specs.arena_objects.Keys.{AllTold}
use Rattle.prim_operators.specs.py_primitives.Outcome as primitives
use Rattle.prim_operators.specs.py_primitives.Outcome.{Outcome}
use Rattle.prim_operators.specs.prim_walks.Plain.{plain, plain_heap}
use Rattle.prim_operators.specs.prim_faults.declared.stop.Stop.{Stop}
use Rattle.prim_operators.specs.prim_faults.declared.stop.Stop.TheVariants as stops
use Rattle.prim_operators.specs.prim_faults.Faults.{IsKnown, IsKnownFault}
use Rattle.prim_operators.specs.prim_faults.Outcomes.{plain_stop}

module _ (texts : StrNo → Option (List ℕ)) (tuples : ConstNo → Option (List Value)) where
  -- the values in the slots, or why there are none
  abbrev pub plain_slots : Heap Value ℕ → List Value → Result (Unit {0}) Stop → Result (List Val) primitives.Stop
  plain_slots heap slots (Ok done) = Ok (map (plain texts tuples) slots)
  plain_slots heap slots (Err stop) = Err (plain_stop texts tuples heap stop)

  -- the values of an answer are known
  abbrev pub AreKnown : Objects Value ℕ → List Value → Result (Unit {0}) Stop → Type 0
  AreKnown objects slots (Ok done) = All (IsKnown texts tuples objects) slots
  AreKnown objects slots (Err (stops.Raises fault)) = IsKnownFault texts tuples objects fault
  AreKnown objects slots (Err (stops.Full e)) = Unit {0}

  -- a call that leaves the new heap in the place of the old one, and its values in these slots, does what the primitive does
  pub record FillsSlots (old new : Heap Value ℕ) (slots : List Value) (result : Result (Unit {0}) Stop) (outcome : Outcome (List Val)) : Type 0 where
    pub answer : plain_slots new slots result ≡ outcome.answer
    pub heap : plain_heap texts tuples new ≡ outcome.heap
    pub known : AreKnown new.objects slots result
    pub later : Later old.objects new.objects
    pub all_told : AllTold texts tuples new.objects
