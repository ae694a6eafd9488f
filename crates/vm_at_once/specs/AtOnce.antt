-- What an instruction comes to that is carried out at once, if it is.
use Rattle.std.specs.Prelude.{◌≡◌, ℕ, ◌≤◌, List, Option, Some, None, Result, Ok, Err}
use Rattle.state_values.specs.mpy_base.World.{Heap}
use Rattle.state_values.specs.prim_assignments.arena_heap.declared.value.Value.{Value}
use Rattle.state_values.specs.prim_assignments.arena_heap.declared.value.StrNo.{StrNo}
use Rattle.state_values.specs.prim_assignments.arena_heap.declared.value.ConstNo.{ConstNo}
use Rattle.state_values.specs.prim_assignments.prim_faults.declared.stop.Stop.{Stop}
use Rattle.state_values.specs.vm_frames.Calls.{Calls}
use Rattle.state_values.specs.vm_fetching.declared.instruction.Fetched.{Fetched}
use Rattle.state_values.specs.Keeping.{ActsKeeping}

-- it acts over a heap that stays, without a stop and with these visits, of which there is one at most; or it is left, and the
-- calls stay
abbrev pub ActsAtOnce : (texts : StrNo → Option (List ℕ)) → (tuples : ConstNo → Option (List Value)) → Fetched → Heap Value ℕ
    → (old new : Calls) → (visits : Option ℕ) → Type 0
ActsAtOnce texts tuples fetched heap old new (Some visits) = ActsKeeping texts tuples fetched visits heap heap old new (Ok tt) × (visits ≤ 1)
ActsAtOnce texts tuples fetched heap old new None = new ≡ old

-- no visits, where it came to no stop
abbrev pub visits_done : Result (Unit {0}) Stop → Option ℕ
visits_done (Ok done) = Some 0
visits_done (Err stop) = None
