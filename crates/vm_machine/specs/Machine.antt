-- Where the machine is that runs a library of files over an arena.
use Rattle.std.specs.Prelude.{◌≡◌, ℕ, List, Option, Some, None, IfSome}
use Rattle.mpy_base.specs.Val.{PlainWorld}
use Rattle.state_steps.specs.prim_faults.arena_objects.Keys.{AllTold}
use Rattle.bc_library.specs.Constants.{items_at, text_at}
use Rattle.bc_library.specs.Shelf.{Shelf}
use Rattle.state_steps.specs.vm_frames.bc_machine.State.{State, Halted}
use Rattle.state_steps.specs.vm_frames.Calls.{Call}
use Rattle.vm_kept.specs.state_calls.frame_moves.Shown.{running_of}
use Rattle.vm_kept.specs.state_calls.frame_moves.Outcomes.{world_of}
use Rattle.vm_kept.specs.state_calls.frame_exits.declared.ends.End.{End}
use Rattle.vm_kept.specs.state_calls.frame_exits.declared.ends.After.TheVariants as afters
use Rattle.vm_kept.specs.state_calls.frame_exits.Ends.{end_of, with_modules}
use Rattle.vm_kept.specs.state_calls.frame_exits.Known.{IsKnownAfter}
use Rattle.vm_starting.specs.vm_states.Means.{Program}
use Rattle.vm_starting.specs.vm_states.State.{IsState}
use Rattle.vm_kept.specs.Kept.{HoldsKept}
use Rattle.vm_kept.specs.state_exits.Modules.{AreRegistered}
use Rattle.vm_starting.specs.Programs.{IsRunnable, IsProgramOf}
use Rattle.vm_starting.specs.declared.opening.Vm.{Vm}
use Rattle.vm_starting.specs.Opened.{HasMemory}

-- the calls run, with these steps paid on the instruction of the first, or the run has ended
abbrev pub paid_state : Program → Option End → (paid : ℕ) → List Call → PlainWorld → State
paid_state p None paid calls w = running_of p.tables paid calls w
paid_state p (Some end) paid calls w = Halted (end_of end) w

-- the world with the machine's arena and its registered modules
abbrev pub world_in : Program → Vm → PlainWorld → PlainWorld
world_in p vm w = world_of p.tables (with_modules p.tables w vm.modules) vm.arena

-- where the machine is, in a world with its output and its ports
abbrev pub machine_of : Program → Vm → PlainWorld → State
machine_of p vm w = paid_state p vm.end vm.paid vm.frames.calls (world_in p vm w)

-- the calls are a state of the program, its modules are registered, and the slots and entries hold what the plans keep in them
pub record RunsProgram (p : Program) (vm : Vm) : Type 0 where
  pub state : IsState p vm.arena.objects vm.frames
  pub registered : AreRegistered p vm.arena vm.modules
  pub kept : HoldsKept p vm.arena.objects vm.frames

-- the machine runs the library: until it has ended it is in a state of each of the library's programs. What the arena holds is
-- told, and so is an exception that ended it
pub record IsVm (shelf : Shelf) (vm : Vm) : Type 0 where
  pub runnable : IsRunnable shelf
  pub n_state : ℕ
  pub n_exc : ℕ
  pub memory : HasMemory shelf n_state n_exc vm
  pub runs : vm.end ≡ None → (p : Program) → IsProgramOf shelf p → RunsProgram p vm
  pub ended : IfSome vm.end (λ end. IsKnownAfter (text_at shelf) (items_at shelf) vm.arena.objects (afters.Ends end))
  pub all_told : AllTold (text_at shelf) (items_at shelf) vm.arena.objects
