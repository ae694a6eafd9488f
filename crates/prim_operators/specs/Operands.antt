-- What operators see of their operands.
use Rattle.std.specs.Prelude.{◌≡◌, ℕ, ℤ, Bool, List, Option, Some, None, is_some}
use Rattle.prim_faults.specs.mpy_base.World.{Heap}
use Rattle.prim_faults.specs.arena_heap.declared.value.Value.{Value}
use Rattle.prim_faults.specs.arena_heap.declared.value.Value.TheVariants as values
use Rattle.prim_faults.specs.arena_heap.declared.value.StrNo.{StrNo}
use Rattle.prim_faults.specs.arena_heap.declared.value.ConstNo.{ConstNo}
use Rattle.prim_faults.specs.arena_heap.Constants.{NestsWithin}
use Rattle.prim_faults.specs.py_values.Shown.{number_of_truth}
use Rattle.prim_faults.specs.py_primitives.Iterables.{items_in}
use Rattle.prim_faults.specs.prim_walks.Plain.{plain, plain_heap}

-- the number that a value counts as
abbrev pub number_in : Value → Option ℤ
number_in (values.Bool b) = Some (number_of_truth b)
number_in (values.Int z) = Some z
number_in _ = None

-- does a value have items, whatever the constants are?
abbrev pub DecidesIterable : Heap Value ℕ → Value → Bool → Type 0
DecidesIterable heap v answer =
    (texts : StrNo → Option (List ℕ)) (tuples : ConstNo → Option (List Value))
    → answer ≡ is_some (items_in (plain_heap texts tuples heap) (plain texts tuples v))

-- values whose items are no new texts
abbrev pub HasItems : Value → Type 0
HasItems (values.Fixed c) = Unit {0}
HasItems values.Empty = Unit {0}
HasItems (values.List l) = Unit {0}
HasItems (values.Tuple t) = Unit {0}
HasItems (values.Dict d) = Unit {0}
HasItems (values.Range r) = Unit {0}
HasItems _ = ⊥

-- a constant tuple has tuples in it to a depth of 32 at most
abbrev pub IsNested : (ConstNo → Option (List Value)) → Value → Type 0
IsNested tuples (values.Fixed c) = NestsWithin tuples 32 c
IsNested tuples _ = Unit {0}
