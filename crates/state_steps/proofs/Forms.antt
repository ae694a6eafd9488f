-- An instruction that stays in the running call, by what it has.
use Rattle.std.proofs.Common.{◌≡◌, ℕ, List, Option, Result, sym, subst}
use Rattle.state_calls.specs.mpy_base.World.{Heap}
use Rattle.state_calls.specs.arena_heap.declared.value.Value.{Value}
use Rattle.state_calls.specs.arena_heap.declared.value.StrNo.{StrNo}
use Rattle.state_calls.specs.arena_heap.declared.value.ConstNo.{ConstNo}
use Rattle.state_calls.specs.prim_faults.declared.stop.Stop.{Stop}
use Rattle.state_values.specs.vm_frames.Calls.{Calls}
use Rattle.state_calls.specs.vm_fetching.declared.instruction.Step.{Step}
use Rattle.state_calls.specs.vm_fetching.Instructions as fetched
use Rattle.state_values.specs.vm_states.Acting.{RunsOver}
use Rattle.state_values.specs.Keeping.{ActsKeeping}

module _ (texts : StrNo → Option (List ℕ)) (tuples : ConstNo → Option (List Value)) (step other : Step) (end : ℕ) (is : step ≡ other) where
  pub step_runs : (heap : Heap Value ℕ) (s : Calls) → RunsOver texts tuples heap s (record { instruction = fetched.stays step; end = end }) → RunsOver texts tuples heap s (record { instruction = fetched.stays other; end = end })
  step_runs heap s h = subst (λ (j : Step). RunsOver texts tuples heap s (record { instruction = fetched.stays j; end = end })) is h

  pub step_acts : (before behind : Heap Value ℕ) (old new : Calls) (result : Result (Unit {0}) Stop)
      → ActsKeeping texts tuples (record { instruction = fetched.stays other; end = end }) 0 before behind old new result
      → ActsKeeping texts tuples (record { instruction = fetched.stays step; end = end }) 0 before behind old new result
  step_acts before behind old new result h =
      subst (λ (j : Step). ActsKeeping texts tuples (record { instruction = fetched.stays j; end = end }) 0 before behind old new result) (sym is) h
