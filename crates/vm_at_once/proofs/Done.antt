-- What was done at once.
use Rattle.std.proofs.Common.{◌≡◌, ℕ, List, Option, Result, Ok, Err, sym, subst, arith}
use Rattle.state_values.specs.mpy_base.World.{Heap}
use Rattle.state_values.specs.prim_assignments.arena_heap.declared.value.Value.{Value}
use Rattle.state_values.specs.prim_assignments.arena_heap.declared.value.StrNo.{StrNo}
use Rattle.state_values.specs.prim_assignments.arena_heap.declared.value.ConstNo.{ConstNo}
use Rattle.state_values.specs.prim_assignments.prim_faults.declared.stop.Stop.{Stop}
use Rattle.state_values.specs.vm_frames.Calls.{Calls}
use Rattle.state_values.specs.vm_fetching.declared.instruction.Fetched.{Fetched}
use Rattle.state_values.specs.Keeping.{ActsKeeping}
use Rattle.vm_at_once.specs.AtOnce.{ActsAtOnce, visits_done}

module _ (texts : StrNo → Option (List ℕ)) (tuples : ConstNo → Option (List Value)) (fetched : Fetched) (heap : Heap Value ℕ) (old new : Calls) where
  by_result : (acted : Result (Unit {0}) Stop) → ActsKeeping texts tuples fetched 0 heap heap old new acted → ActsAtOnce texts tuples fetched heap old new (visits_done acted)
  by_result (Ok done) a = (a, omega arith)
  by_result (Err stop) a = a.stays

  -- no visits where it came to no stop, and else the calls stay
  pub at_once : (acted : Result (Unit {0}) Stop) (visits : Option ℕ) → visits ≡ visits_done acted → ActsKeeping texts tuples fetched 0 heap heap old new acted → ActsAtOnce texts tuples fetched heap old new visits
  at_once acted visits is a = subst (ActsAtOnce texts tuples fetched heap old new) (sym is) (by_result acted a)
