-- Machines of one snapshot: what is asked of them, and how their worlds differ.
use Rattle.std.specs.Prelude.{◌≡◌, map, None, IsSome}
use Rattle.mpy_base.specs.World.{object}
use Rattle.mpy_base.specs.Val.{PlainWorld}
use Rattle.bc_library.specs.Shelf.{Shelf}
use Rattle.vm_starting.specs.vm_states.frame_moves.Shown.{view_of}
use Rattle.vm_starting.specs.vm_states.vm_frames.Views.{frame_of}
use Rattle.vm_starting.specs.vm_states.Means.{Program}
use Rattle.vm_starting.specs.Programs.{IsProgramOf}
use Rattle.vm_starting.specs.declared.opening.Vm.{Vm}
use Rattle.vm_machine.specs.Machine.{world_in}
use Rattle.snap_grammar.specs.declared.parts.Snapshot.{Snapshot}
use Rattle.snap_states.specs.States.{IsShaped}
use Rattle.snap_states.specs.Decoded.{IsDecoded}
use Rattle.snap_laws.specs.Renamed.{Renaming}
use Rattle.snap_laws.specs.Worlds.{IsWorld}
use Rattle.snap_laws.specs.States.{frame_as}

-- the first object begins at the first cell, as each run makes it
pub record BeginsFirst (vm : Vm) : Type 0 where
  pub first : IsSome (object vm.arena.objects 0)

-- the machine is what a snapshot of this shape stands for, and goes on there
pub record StandsFor (shelf : Shelf) (s : Snapshot) (vm : Vm) : Type 0 where
  pub goes_on : vm.end ≡ None
  pub paid : vm.paid ≡ s.paid
  pub shaped : IsShaped shelf s
  pub decoded : IsDecoded shelf s vm.arena vm.modules vm.frames.calls

-- in each program of the library the worlds of the machines are the same, but for the numbers of their objects
pub record AreSameWorlds (shelf : Shelf) (vm other : Vm) : Type 0 where
  pub renaming : Renaming
  pub worlds : (p : Program) → IsProgramOf shelf p → (w : PlainWorld) → IsWorld renaming (world_in p vm w) (world_in p other w)

-- so are their frames, with as much paid, and both go on
pub record AreSameFrames (shelf : Shelf) (r : Renaming) (vm other : Vm) : Type 0 where
  pub goes_on : vm.end ≡ None
  pub other_goes_on : other.end ≡ None
  pub paid : vm.paid ≡ other.paid
  pub frames : (p : Program) → IsProgramOf shelf p
      → map (frame_of (view_of p.tables)) other.frames.calls ≡ map (frame_as r) (map (frame_of (view_of p.tables)) vm.frames.calls)
