-- What indexes find in values.
use Rattle.std.specs.Prelude.{◌≡◌, ℕ, List, Option}
use Rattle.prim_faults.specs.mpy_base.World.{Heap}
use Rattle.prim_faults.specs.arena_heap.declared.value.Value.{Value}
use Rattle.prim_faults.specs.arena_heap.declared.value.Value.TheVariants as values
use Rattle.prim_faults.specs.arena_heap.declared.value.StrNo.{StrNo}
use Rattle.prim_faults.specs.arena_heap.declared.value.ConstNo.{ConstNo}
use Rattle.prim_faults.specs.py_values.Shown.{Shown, Nothing, Number, Text, Tuple, Range, Other, shown}
use Rattle.prim_faults.specs.mpy_base.Val.{Val}
use Rattle.prim_faults.specs.py_primitives.Outcome.{Outcome, raises}
use Rattle.prim_faults.specs.py_primitives.Uses.{at_place}
use Rattle.prim_faults.specs.declared.fault.Fault.{Fault}
use Rattle.prim_faults.specs.Faults.{plain_fault, IsKnownFault}
use Rattle.prim_faults.specs.prim_walks.Plain.{plain, plain_heap}
use Rattle.prim_operators.specs.declared.containers.Container.{Container}
use Rattle.prim_operators.specs.declared.containers.Container.TheVariants as containers

-- items at places that can't be set
abbrev pub IsSequence : Shown → Type 0
IsSequence (Text bytes) = Unit {0}
IsSequence (Tuple items) = Unit {0}
IsSequence (Range start stop step) = Unit {0}
IsSequence _ = ⊥

-- no items at all
abbrev pub HasNoItems : Shown → Type 0
HasNoItems Nothing = Unit {0}
HasNoItems (Number z) = Unit {0}
HasNoItems Other = Unit {0}
HasNoItems _ = ⊥

-- what the value is to an index: a dict, a list, another sequence, or nothing that has items
abbrev pub IsContainer : Heap Value ℕ → Value → Container → Type 0
IsContainer heap v (containers.Dict d) = v ≡ values.Dict d
IsContainer heap v (containers.List l) = v ≡ values.List l
IsContainer heap v containers.Sequence =
    (texts : StrNo → Option (List ℕ)) (tuples : ConstNo → Option (List Value)) → IsSequence (shown (plain_heap texts tuples heap) (plain texts tuples v))
IsContainer heap v containers.Other =
    (texts : StrNo → Option (List ℕ)) (tuples : ConstNo → Option (List Value)) → HasNoItems (shown (plain_heap texts tuples heap) (plain texts tuples v))

-- the place that an index names: what a primitive does there follows, whatever it does
pub record IsPlace (texts : StrNo → Option (List ℕ)) (tuples : ConstNo
    → Option (List Value)) (heap : Heap Value ℕ) (object index : Value) (at : ℕ) : Type 0 where
  pub follows : (next : ℕ → Outcome Val) → at_place (plain_heap texts tuples heap) (plain texts tuples object) (plain texts tuples index) next ≡ next at

-- an index that names none: the fault follows
pub record IsNoPlace (texts : StrNo → Option (List ℕ)) (tuples : ConstNo
    → Option (List Value)) (heap : Heap Value ℕ) (object index : Value) (fault : Fault) : Type 0 where
  pub known : IsKnownFault texts tuples heap.objects fault
  pub follows : (next : ℕ → Outcome Val)
      → at_place (plain_heap texts tuples heap) (plain texts tuples object) (plain texts tuples index) next
      ≡ raises (plain_fault texts tuples heap fault) (plain_heap texts tuples heap)
