-- What a machine of a run keeps, of its heap, its modules and its frames.
use Rattle.std.proofs.Common.{◌≡◌, ℕ, ◌<◌, List, [], ◌∷◌, length, map, Option, None, refl, subst, arith}
use Rattle.std.specs.List.{AllByRecursion as Each}
use Rattle.mpy_base.specs.Val.{PlainWorld}
use Rattle.bc_library.specs.Shelf.{Shelf}
use Rattle.bc_machine.specs.py_values.Shown.{PlainHeap}
use Rattle.bc_machine.specs.py_effects.Ends.{new_world}
use Rattle.bc_machine.specs.Growth.{world_of}
use Rattle.vm_starting.specs.vm_states.frame_exits.declared.ends.End.{End}
use Rattle.vm_starting.specs.vm_states.frame_moves.Shown.{running_of, view_of}
use Rattle.vm_starting.specs.vm_states.vm_frames.Calls.{Call}
use Rattle.vm_starting.specs.vm_states.vm_frames.Views.{frame_of}
use Rattle.vm_starting.specs.vm_states.Means.{Program}
use Rattle.vm_starting.specs.vm_states.Running.{FitCalls}
use Rattle.vm_starting.specs.Programs.{IsProgramOf}
use Rattle.vm_starting.specs.declared.opening.Vm.{Vm}
use Rattle.vm_machine.specs.prim_walks.Plain.{plain_heap}
use Rattle.vm_machine.specs.Machine.{paid_state, world_in, machine_of, IsVm}
use Rattle.snap_laws.specs.Filled.{AreFilled, HoldsBytes}
use Rattle.snap_laws.specs.Kept.{WaitBelow, WaitsWell}
use Rattle.snap_kept.specs.Effects.{IsSound}
use Rattle.snap_kept.specs.Frames.{IsFrame, IsKept}
use Rattle.snap_loading.specs.Saved.{Keeps, IsSaved}

-- the heap of the machine, as the program has it
abbrev pub heap_in : Program → Vm → PlainHeap
heap_in p vm = plain_heap p.tables.texts p.tables.tuples vm.arena

-- a world for the heap
abbrev pub some_world : PlainWorld
some_world = new_world 0 0 []

pub record Gathered (p : Program) (vm : Vm) : Type 0 where
  pub sound : IsSound p.library (world_in p vm some_world)
  pub frames : Each (IsFrame p.library (heap_in p vm)) (map (frame_of (view_of p.tables)) vm.frames.calls)
  pub filled : AreFilled (heap_in p vm)
  pub bytes : HoldsBytes (heap_in p vm)
  -- the frames below the innermost one wait as it began
  pub waits : (c : Call) (rest : List Call) → vm.frames.calls ≡ c ∷ rest → WaitBelow p.library (frame_of (view_of p.tables) c).role (map (frame_of (view_of p.tables)) rest)

-- the calls run, since there are some
abbrev Found : Program → List Call → PlainWorld → Type 0
Found p calls w = IsSound p.library w × Each (IsFrame p.library w.heap) (map (frame_of (view_of p.tables)) calls)

kept_in : (p : Program) (calls : List Call) (paid : ℕ) (w : PlainWorld) → FitCalls p calls → IsKept p.library (running_of p.tables paid calls w) → Found p calls w
kept_in p [] paid w fits kept = absurd fits
kept_in p (c ∷ cs) paid w fits kept = kept

pub some_calls : (p : Program) (calls : List Call) → FitCalls p calls → 0 < length calls
some_calls p [] fits = absurd fits
some_calls p (c ∷ cs) fits = omega arith

world_same : (p : Program) (calls : List Call) (paid : ℕ) (w : PlainWorld) → world_of (running_of p.tables paid calls w) ≡ w
world_same p [] paid w = refl
world_same p (c ∷ cs) paid w = refl

keeps_in : (p : Program) (vm : Vm) → vm.end ≡ None → Keeps p (machine_of p vm some_world) → Keeps p (running_of p.tables vm.paid vm.frames.calls (world_in p vm some_world))
keeps_in p vm on keeps = subst (λ (z : Option End). Keeps p (paid_state p z vm.paid vm.frames.calls (world_in p vm some_world))) on keeps

pub gathered : (shelf : Shelf) (vm : Vm) (p : Program) → IsVm shelf vm → IsSaved shelf vm → IsProgramOf shelf p → Gathered p vm
gathered shelf vm p is saved program =
    let w = world_in p vm some_world in
    let keeps = keeps_in p vm saved.goes_on (saved.keeps p program some_world) in
    let found = kept_in p vm.frames.calls vm.paid w (is.runs saved.goes_on p program).state.running.fits keeps.kept in
    let same : world_of (running_of p.tables vm.paid vm.frames.calls w) ≡ w = world_same p vm.frames.calls vm.paid w in
    record {
      sound = found.0;
      frames = found.1;
      filled = subst (λ (z : PlainWorld). AreFilled z.heap) same keeps.filled;
      bytes = subst (λ (z : PlainWorld). HoldsBytes z.heap) same keeps.bytes;
      waits = λ c rest e. subst (λ z. WaitsWell p.library (running_of p.tables vm.paid z w)) e keeps.waits;
    }
