-- What an instruction acts as that leaves the running call running, and what it keeps.
use Rattle.std.specs.Prelude.{◌≡◌, ℕ, List, Option, Result, OnErr}
use Rattle.vm_states.specs.mpy_base.World.{Heap}
use Rattle.vm_states.specs.prim_names.arena_heap.declared.value.Value.{Value}
use Rattle.vm_states.specs.prim_names.arena_heap.declared.value.StrNo.{StrNo}
use Rattle.vm_states.specs.prim_names.arena_heap.declared.value.ConstNo.{ConstNo}
use Rattle.vm_states.specs.prim_names.prim_faults.declared.stop.Stop.{Stop}
use Rattle.vm_states.specs.vm_frames.Calls.{Calls}
use Rattle.vm_states.specs.vm_fetching.declared.instruction.Fetched.{Fetched}
use Rattle.vm_states.specs.Acting.{ActsBehind}

-- it acts so in each program, the rooms of the calls stay, and where it stops all of the calls do
pub record ActsKeeping (texts : StrNo → Option (List ℕ)) (tuples : ConstNo
    → Option (List Value)) (fetched : Fetched) (visits : ℕ) (before behind : Heap Value ℕ) (old new : Calls)
    (result : Result (Unit {0}) Stop) : Type 0 where
  pub acts : ActsBehind texts tuples fetched visits before behind old new result
  pub rooms : new ≡ record old { calls = new.calls }
  pub stays : OnErr result (new ≡ old)
