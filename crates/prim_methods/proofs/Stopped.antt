-- A call that stops where a making doesn't fit behind others that did.
use Rattle.std.proofs.Common.{◌≡◌, ℕ, List, Option, Err, sym, ap, ◌∙◌}
use Rattle.prim_assignments.specs.arena_heap.declared.value.Value.{Value}
use Rattle.prim_assignments.specs.arena_heap.declared.value.StrNo.{StrNo}
use Rattle.prim_assignments.specs.arena_heap.declared.value.ConstNo.{ConstNo}
use Rattle.mpy_base.specs.declared.room.NoRoom.{NoRoom}
use Rattle.mpy_base.specs.World.{Heap, Later}
use Rattle.mpy_base.specs.Weights.{Refused, no_room}
use Rattle.mpy_base.specs.Val.{Val}
use Rattle.prim_assignments.specs.arena_objects.Keys.{AllTold}
use Rattle.prim_builtins.specs.py_primitives.Outcome as primitives
use Rattle.prim_builtins.specs.py_primitives.Outcome.{Outcome}
use Rattle.prim_assignments.specs.prim_walks.Plain.{plain_heap}
use Rattle.prim_assignments.specs.prim_faults.declared.stop.Stop.TheVariants.{Full}
use Rattle.prim_assignments.specs.prim_faults.Outcomes.{IsOutcome}
use Rattle.prim_assignments.proofs.prim_faults_lemmas.Heaps.{no_room_plain}

module _ (texts : StrNo → Option (List ℕ)) (tuples : ConstNo → Option (List Value)) (h new : Heap Value ℕ) (later : Later h.objects new.objects) (all : AllTold texts tuples new.objects) (outcome : Outcome Val) where
  pub stopped_outcome : (mid : Heap Value ℕ) (e : NoRoom) (cells bytes : ℕ) → Refused mid new e cells bytes → outcome.answer ≡ Err (primitives.Full (no_room (plain_heap texts tuples mid) cells bytes))
      → outcome.heap ≡ plain_heap texts tuples mid → IsOutcome texts tuples h new (Err (Full e)) outcome
  stopped_outcome mid e cells bytes r answers behind = record {
    answer = ap (λ (x : NoRoom). Err (primitives.Full x)) (r.told ∙ sym (no_room_plain texts tuples mid cells bytes)) ∙ sym answers;
    heap = ap (plain_heap texts tuples) r.unchanged ∙ sym behind;
    known = tt;
    later = later;
    all_told = all;
  }
