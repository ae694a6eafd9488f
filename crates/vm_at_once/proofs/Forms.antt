-- What was fetched, by the form of its instruction.
use Rattle.std.proofs.Common.{◌≡◌, ℕ, List, Option, sym, subst}
use Rattle.state_values.specs.mpy_base.World.{Heap}
use Rattle.state_values.specs.prim_assignments.arena_heap.declared.value.Value.{Value}
use Rattle.state_values.specs.prim_assignments.arena_heap.declared.value.StrNo.{StrNo}
use Rattle.state_values.specs.prim_assignments.arena_heap.declared.value.ConstNo.{ConstNo}
use Rattle.state_values.specs.vm_frames.Calls.{Calls}
use Rattle.state_values.specs.vm_fetching.declared.instruction.Fetched.{Fetched}
use Rattle.state_values.specs.vm_fetching.declared.instruction.Instruction.{Instruction}
use Rattle.state_values.specs.vm_fetching.declared.instruction.Step.{Step}
use Rattle.state_values.specs.vm_fetching.Instructions as fetched
use Rattle.state_values.specs.vm_states.Acting.{RunsOver}
use Rattle.vm_at_once.specs.AtOnce.{ActsAtOnce}

module _ (texts : StrNo → Option (List ℕ)) (tuples : ConstNo → Option (List Value)) (f : Fetched) (i : Instruction) (is : f.instruction ≡ i) where
  pub runs_at : (heap : Heap Value ℕ) (s : Calls) → RunsOver texts tuples heap s f → RunsOver texts tuples heap s (record { instruction = i; end = f.end })
  runs_at heap s h = subst (λ (j : Instruction). RunsOver texts tuples heap s (record { instruction = j; end = f.end })) is h

  pub acts_at : (heap : Heap Value ℕ) (old new : Calls) (visits : Option ℕ) → ActsAtOnce texts tuples (record { instruction = i; end = f.end }) heap old new visits → ActsAtOnce texts tuples f heap old new visits
  acts_at heap old new visits h = subst (λ (j : Instruction). ActsAtOnce texts tuples (record { instruction = j; end = f.end }) heap old new visits) (sym is) h

-- one that stays in the running call
module _ (texts : StrNo → Option (List ℕ)) (tuples : ConstNo → Option (List Value)) (step other : Step) (end : ℕ) (is : step ≡ other) where
  pub step_runs : (heap : Heap Value ℕ) (s : Calls) → RunsOver texts tuples heap s (record { instruction = fetched.stays step; end = end }) → RunsOver texts tuples heap s (record { instruction = fetched.stays other; end = end })
  step_runs heap s h = subst (λ (j : Step). RunsOver texts tuples heap s (record { instruction = fetched.stays j; end = end })) is h

  pub step_acts : (heap : Heap Value ℕ) (old new : Calls) (visits : Option ℕ) → ActsAtOnce texts tuples (record { instruction = fetched.stays other; end = end }) heap old new visits → ActsAtOnce texts tuples (record { instruction = fetched.stays step; end = end }) heap old new visits
  step_acts heap old new visits h = subst (λ (j : Step). ActsAtOnce texts tuples (record { instruction = fetched.stays j; end = end }) heap old new visits) (sym is) h
