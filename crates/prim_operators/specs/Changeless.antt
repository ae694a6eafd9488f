-- Answers that no heap has a part in.
use Rattle.std.specs.Prelude.{ℕ, List, Option, Result}
use Rattle.prim_faults.specs.mpy_base.World.{Heap}
use Rattle.prim_faults.specs.mpy_base.Val.{Val}
use Rattle.prim_faults.specs.arena_heap.declared.value.Value.{Value}
use Rattle.prim_faults.specs.arena_heap.declared.value.StrNo.{StrNo}
use Rattle.prim_faults.specs.arena_heap.declared.value.ConstNo.{ConstNo}
use Rattle.prim_faults.specs.arena_objects.Keys.{AllTold}
use Rattle.prim_faults.specs.py_values.Shown.{PlainHeap}
use Rattle.prim_faults.specs.py_primitives.Outcome.{Outcome}
use Rattle.prim_faults.specs.prim_walks.Plain.{plain_heap}
use Rattle.prim_faults.specs.declared.stop.Stop.{Stop}
use Rattle.prim_faults.specs.Outcomes.{IsOutcome}

-- the answer is the primitive's in each heap, and leaves it as it is
abbrev pub IsAnswerOf : Result Value Stop → (PlainHeap → Outcome Val) → Type 0
IsAnswerOf result outcome =
    (texts : StrNo → Option (List ℕ)) (tuples : ConstNo → Option (List Value)) (heap : Heap Value ℕ) → AllTold texts tuples heap.objects
    → IsOutcome texts tuples heap heap result (outcome (plain_heap texts tuples heap))
