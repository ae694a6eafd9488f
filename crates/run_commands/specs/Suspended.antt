-- Runs that were suspended, and that were gone on with.
use Rattle.std.specs.Prelude.{◌≡◌, ℕ, ◌+◌, ◌≤◌, List, [], ◌++◌, length, map, Option, Some, IfSome, Result, Ok}
use Rattle.std.specs.Io.KnownBytes.{Appends}
use Rattle.mpy_base.specs.declared.room.Room.{Room}
use Rattle.mpy_base.specs.World.{PortState}
use Rattle.mpy_io.specs.Files.{FileOf, Becomes}
use Rattle.mpy_io.specs.Ports.{PortView}
use Rattle.port_set.specs.Calls.{Tell}
use Rattle.port_set.specs.Counts.{AreAccounted}
use Rattle.bc_library.specs.Shelf.{Shelf}
use Rattle.library_runs.specs.vm_frames.bc_machine.Library.{Name}
use Rattle.library_runs.specs.vm_frames.bc_machine.Machine.{run}
use Rattle.library_runs.specs.vm_starting.vm_states.Means.{Program}
use Rattle.library_runs.specs.vm_starting.Programs.{IsProgramOf}
use Rattle.library_runs.specs.vm_starting.declared.opening.Vm.{Vm}
use Rattle.library_runs.specs.declared.ending.RunEnd.{RunEnd}
use Rattle.library_runs.specs.Runs.{Sight, RunsAs}
use Rattle.snap_grammar.specs.declared.fault.SnapFault.{SnapFault}
use Rattle.snap_loading.specs.Given.{HasNames}
use Rattle.snap_loading.specs.Suspended.{IsSuspended}
use Rattle.command_files.specs.mpy_endings.declared.ending.Ending.{Ending}
use Rattle.command_files.specs.mpy_endings.declared.ending.Ending.TheVariants.{Stopped}
use Rattle.command_files.specs.mpy_endings.declared.ending.Stop.TheVariants.{Unresumed}
use Rattle.command_files.specs.Outside.{Outside}
use Rattle.run_commands.specs.declared.ready.Ready.{Ready}
use Rattle.run_commands.specs.Resume.{RefusesState}
use Rattle.run_commands.specs.Run.{sight_in}

-- no module of the library has an empty name
abbrev pub AreNamed : Shelf → Type 0
AreNamed shelf = HasNames shelf

-- the snapshot of a run
-- =====================

-- a run up to where it was suspended: its room and its ports, how many steps it took, what it printed in these, and
-- what it left of the ports
pub record Front : Type 0 where
  pub room : Room
  pub ports : List PortState
  pub steps : ℕ
  pub printed : List ℕ
  pub left : List PortState

-- in a program of the library the run of the main module of this name prints that in those steps, and leaves the ports
-- so
pub record RunsFront (p : Program) (main : Name) (front : Front) : Type 0 where
  pub prints : (run p.library main front.room.cells front.room.bytes front.ports front.steps).world.output
      ≡ front.printed
  pub leaves : (run p.library main front.room.cells front.room.bytes front.ports front.steps).world.ports ≡ front.left

-- the bytes are the snapshot of the machine at which that run stands behind those steps
pub record IsSuspendedRun (shelf : Shelf) (main : Name) (front : Front) (bytes : List ℕ) : Type 0 where
  pub names : AreNamed shelf
  pub vm : Vm
  pub suspended : IsSuspended shelf main front.room.cells front.room.bytes front.ports front.steps bytes vm
  pub few_bytes : length bytes ≤ 4194304
  pub runs : (p : Program) → IsProgramOf shelf p → RunsFront p main front

-- the file under the name is refused as a snapshot of a state of the library
abbrev pub RefusesSnapshot : Shelf → FileOf → (name : List ℕ) → Type 0
RefusesSnapshot shelf file name = (fault : SnapFault) × RefusesState shelf (Some file) name (Stopped (Unresumed fault))

-- what a run leaves that saves its state
-- ======================================

-- A run in this room, with these ports and for these steps, left this: its library was run, and the file of this name
-- has the snapshot of the run, with what it printed and left of the ports. No other file changed.
pub record LeavesRun (Comes : Result Ready Ending → Type 0) (room : Room) (steps : ℕ) (snap : List ℕ)
    (ports : List PortState) (old new : Sight) (files_old files_new : Option FileOf) : Type 0 where
  pub ready : Ready
  pub comes : Comes (Ok ready)
  pub printed : List ℕ
  pub left : List PortState
  pub bytes : List ℕ
  pub prints : Appends old.out new.out printed
  pub told : Tell new.ports left
  pub written : Becomes files_old files_new snap bytes
  pub suspended : AreNamed ready.library
      → IsSuspendedRun ready.library ready.main
      (record { room = room; ports = ports; steps = steps; printed = printed; left = left }) bytes

-- With status 5 a run whose state is saved under a name, if one is given, leaves that, where the sink of the output and
-- the ports tell what they have, and each port its faults.
abbrev pub SavesRun : (saved : Option (List ℕ))
    → (Comes : Option FileOf → (name : List ℕ) → Result Ready Ending → Type 0) → Room → (steps : ℕ) → (name : List ℕ)
    → (old new : Outside) → (ports_old ports_new : List PortView) → (status : ℕ) → Type 0
SavesRun saved Comes room steps name old new ports_old ports_new status =
    IfSome saved (λ snap. status ≡ 5 → (ports : List PortState) (before : List ℕ) → Tell ports_old ports
    → AreAccounted ports_old ports_new → old.out ≡ Some before
    → LeavesRun (Comes old.files name) room steps snap ports (sight_in old ports_old) (sight_in new ports_new)
    old.files new.files)

-- one run of all the steps
-- ========================

-- a port of these contents that counts no faults
abbrev pub view_of : PortState → PortView
view_of port = record { told = Some port; count = 0 }

-- a sink and ports that tell this
abbrev pub told_of : (printed : List ℕ) → List PortState → Sight
told_of printed ports = record { out = Some printed; ports = map view_of ports }

-- What went on for these steps behind a suspended run was the rest of one run of all its steps: that prints what was
-- printed before and behind, leaves the ports as they were left in the end, and ends so.
pub record IsRest (shelf : Shelf) (main : Name) (front : Front) (steps : ℕ) (old new : Sight) (end : RunEnd)
    (said : List ℕ) : Type 0 where
  pub rest : List ℕ
  pub ports : List PortState
  pub prints : Appends old.out new.out rest
  pub told : Tell new.ports ports
  pub whole : RunsAs shelf main front.room (front.steps + steps)
      (told_of [] front.ports) (told_of (front.printed ++ rest) ports) end said
