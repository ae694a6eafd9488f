-- Calls of which one follows another.
use Rattle.std.proofs.Common.{ℕ, List, Option, Result, Ok, Err, ap, ap₂, ◌∙◌}
use Rattle.prim_builtins.specs.arena_heap.declared.value.Value.{Value}
use Rattle.prim_builtins.specs.arena_heap.declared.value.StrNo.{StrNo}
use Rattle.prim_builtins.specs.arena_heap.declared.value.ConstNo.{ConstNo}
use Rattle.mpy_base.specs.World.{Heap}
use Rattle.mpy_base.specs.Val.{Val}
use Rattle.mpy_base.proofs.Worlds.{later_later}
use Rattle.prim_builtins.specs.py_values.Shown.{PlainHeap}
use Rattle.prim_builtins.specs.py_primitives.Outcome as primitives
use Rattle.prim_builtins.specs.py_primitives.Outcome.{Outcome, go_on_with, followed_by}
use Rattle.prim_builtins.specs.prim_walks.Plain.{plain, plain_heap}
use Rattle.prim_builtins.specs.prim_faults.declared.stop.Stop.{Stop}
use Rattle.prim_builtins.specs.prim_faults.Outcomes.{IsOutcome}

module _ (texts : StrNo → Option (List ℕ)) (tuples : ConstNo → Option (List Value)) (old mid : Heap Value ℕ) (first : Outcome Val) (next : Val → PlainHeap → Outcome Val) where
  pub followed : (new : Heap Value ℕ) (v : Value) (result : Result Value Stop) → IsOutcome texts tuples old mid (Ok v) first
      → IsOutcome texts tuples mid new result (next (plain texts tuples v) (plain_heap texts tuples mid)) → IsOutcome texts tuples old new result (followed_by first next)
  followed new v result one two = record {
    answer = two.answer ∙ ap₂ (λ (r : Result Val primitives.Stop) (h : PlainHeap). (go_on_with r h first.visits next).answer) one.answer one.heap;
    heap = two.heap ∙ ap₂ (λ (r : Result Val primitives.Stop) (h : PlainHeap). (go_on_with r h first.visits next).heap) one.answer one.heap;
    known = two.known;
    later = later_later one.later two.later;
    all_told = two.all_told;
  }

  -- nothing follows on a stop
  pub stopped : (stop : Stop) → IsOutcome texts tuples old mid (Err stop) first → IsOutcome texts tuples old mid (Err stop) (followed_by first next)
  stopped stop one = record {
    answer = ap (λ (r : Result Val primitives.Stop). (go_on_with r first.heap first.visits next).answer) one.answer;
    heap = one.heap ∙ ap (λ (r : Result Val primitives.Stop). (go_on_with r first.heap first.visits next).heap) one.answer;
    known = one.known;
    later = one.later;
    all_told = one.all_told;
  }
