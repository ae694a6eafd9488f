-- What a primitive's call answers, over an arena.
use Rattle.std.specs.Prelude.{◌≡◌, ℕ, List, Option, Result, Ok, Err}
use Rattle.prim_walks.specs.mpy_base.World.{Heap, Objects, Later}
use Rattle.prim_walks.specs.mpy_base.Val.{Val}
use Rattle.prim_walks.specs.arena_heap.declared.value.Value.{Value}
use Rattle.prim_walks.specs.arena_heap.declared.value.StrNo.{StrNo}
use Rattle.prim_walks.specs.arena_heap.declared.value.ConstNo.{ConstNo}
use Rattle.prim_walks.specs.arena_objects.Keys.{AllTold}
use Rattle.prim_walks.specs.py_primitives.Outcome as primitives
use Rattle.prim_walks.specs.py_primitives.Outcome.{Outcome}
use Rattle.prim_walks.specs.Plain.{plain, plain_heap}
use Rattle.prim_faults.specs.declared.stop.Stop.{Stop}
use Rattle.prim_faults.specs.declared.stop.Stop.TheVariants as stops
use Rattle.prim_faults.specs.Faults.{plain_fault, IsKnown, IsKnownFault}

module _ (texts : StrNo → Option (List ℕ)) (tuples : ConstNo → Option (List Value)) where
  -- a stop as the meaning has it
  abbrev pub plain_stop : Heap Value ℕ → Stop → primitives.Stop
  plain_stop heap (stops.Raises fault) = primitives.Raises (plain_fault texts tuples heap fault)
  plain_stop heap (stops.Full e) = primitives.Full e

  -- an answer as the meaning has it
  abbrev pub plain_answer : Heap Value ℕ → Result Value Stop → Result Val primitives.Stop
  plain_answer heap (Ok v) = Ok (plain texts tuples v)
  plain_answer heap (Err stop) = Err (plain_stop heap stop)

  -- the values of an answer are known
  abbrev pub IsKnownAnswer : Objects Value ℕ → Result Value Stop → Type 0
  IsKnownAnswer objects (Ok v) = IsKnown texts tuples objects v
  IsKnownAnswer objects (Err (stops.Raises fault)) = IsKnownFault texts tuples objects fault
  IsKnownAnswer objects (Err (stops.Full e)) = Unit {0}

  -- a call that leaves the new heap in the place of the old one, and answers so, does what the primitive does
  pub record IsOutcome (old new : Heap Value ℕ) (result : Result Value Stop) (outcome : Outcome Val) : Type 0 where
    pub answer : plain_answer new result ≡ outcome.answer
    pub heap : plain_heap texts tuples new ≡ outcome.heap
    pub known : IsKnownAnswer new.objects result
    pub later : Later old.objects new.objects
    pub all_told : AllTold texts tuples new.objects
