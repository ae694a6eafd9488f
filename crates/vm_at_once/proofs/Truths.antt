-- A bool on top of the running call, which a jump tests.
use Rattle.std.proofs.Common.{◌≡◌, ℕ, List, [], ◌∷◌, Bool, true, false, Option, refl}
use Rattle.state_values.specs.mpy_base.World.{Heap}
use Rattle.state_values.specs.mpy_base.Val.{PlainWorld, Truth}
use Rattle.state_values.specs.prim_assignments.arena_heap.declared.value.Value.{Value}
use Rattle.state_values.specs.prim_assignments.arena_heap.declared.value.Value.TheVariants as values
use Rattle.state_values.specs.prim_assignments.arena_heap.declared.value.StrNo.{StrNo}
use Rattle.state_values.specs.prim_assignments.arena_heap.declared.value.ConstNo.{ConstNo}
use Rattle.state_values.specs.bc_progress.py_values.Shown.{PlainHeap, truth}
use Rattle.state_values.specs.vm_frames.Calls.{Call}
use Rattle.state_values.specs.frame_moves.Shown.{Tests}
use Rattle.state_values.specs.frame_moves.Outcomes.{world_of}
use Rattle.state_values.specs.frame_values.Effects.{Layout, tables_of}
use Rattle.state_values.specs.frame_values.Slots.{HasValue}

truth_is : (heap : PlainHeap) (b : Bool) → truth heap (Truth b) ≡ b
truth_is heap true = refl
truth_is heap false = refl

pub tests_bool : (texts : StrNo → Option (List ℕ)) (tuples : ConstNo → Option (List Value)) (heap : Heap Value ℕ) (b : Bool) (calls : List Call) → HasValue 0 (values.Bool b) calls
    → (layout : Layout) (w : PlainWorld) → Tests (tables_of texts tuples layout) (world_of (tables_of texts tuples layout) w heap) b calls
tests_bool texts tuples heap b [] top layout w = absurd top
tests_bool texts tuples heap b (c ∷ cs) top layout w = record { value = values.Bool b; top = top; truth_is = truth_is (world_of (tables_of texts tuples layout) w heap).heap b }
