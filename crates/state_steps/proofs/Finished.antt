-- Where a step comes to that makes no visits.
use Rattle.std.proofs.Common.{ℕ, Option, arith}
use Rattle.state_calls.specs.mpy_base.World.{Heap}
use Rattle.state_calls.specs.arena_heap.declared.value.Value.{Value}
use Rattle.state_calls.specs.prim_modules.Registry.{Registry}
use Rattle.state_values.specs.vm_frames.Calls.{Calls}
use Rattle.state_calls.specs.frame_exits.declared.ends.End.{End}
use Rattle.state_values.specs.vm_states.Means.{Program}
use Rattle.state_exits.specs.Running.{RunsOn}
use Rattle.state_steps.specs.Comes.{ComesOn}

pub at_once : (p : Program) (before behind : Heap Value ℕ) (earlier later : Registry) (old new : Calls) (end : Option End) → RunsOn p before behind earlier later old new end → ComesOn p 0 before behind earlier later old new end
at_once p before behind earlier later old new end h = record {
  pays = λ paid w less. absurd (omega (arith, less));
  steps = λ paid w enough. h.steps paid w;
  run = h.run;
  objects = h.objects;
}
