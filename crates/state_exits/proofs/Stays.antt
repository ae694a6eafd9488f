-- Registered modules behind a step that registers and forgets none.
use Rattle.std.proofs.Common.{◌≡◌, ℕ, subst}
use Rattle.vm_states.specs.mpy_base.World.{Heap}
use Rattle.vm_states.specs.mpy_base.Val.{PlainWorld}
use Rattle.prim_faults.specs.arena_heap.declared.value.Value.{Value}
use Rattle.bc_progress.specs.py_effects.Heaps.{Sound}
use Rattle.vm_states.specs.prim_modules.Registry.{Registry}
use Rattle.vm_states.specs.vm_frames.Calls.{Calls}
use Rattle.vm_states.specs.frame_moves.Shown.{running_of}
use Rattle.vm_states.specs.frame_moves.Outcomes.{world_of}
use Rattle.vm_states.specs.frame_exits.Ends.{with_modules}
use Rattle.vm_states.specs.Means.{Program}
use Rattle.vm_states.specs.State.{IsState}
use Rattle.state_exits.specs.Modules.{AreRegistered}
use Rattle.state_exits.specs.Running.{stepped_with}
use Rattle.state_exits.proofs.Sounds.{SoundLaw, running_world, sound_behind}

pub registered_stay : SoundLaw → (p : Program) (s new : Calls) (paid again : ℕ) (before behind : Heap Value ℕ) (modules : Registry) (w v : PlainWorld) → IsState p before.objects s → AreRegistered p before modules
    → stepped_with p paid s w before modules ≡ running_of p.tables again new.calls (world_of p.tables (with_modules p.tables v modules) behind) → AreRegistered p behind modules
registered_stay law p s new paid again before behind modules w v state reg e =
    let V : PlainWorld = world_of p.tables (with_modules p.tables v modules) behind in
    let sound : Sound V = subst Sound (running_world p.tables again new.calls V) (sound_behind p before modules w law s paid state reg (running_of p.tables again new.calls V) e) in
    record { formed = sound.formed; registered = sound.registered; own = reg.own; room = reg.room }
