-- Runs of a library that are alike.
use Rattle.std.specs.Prelude.{◌≡◌, ℕ, List, map, Some}
use Rattle.meant_files.specs.mpy_base.declared.room.Room.{Room}
use Rattle.meant_files.specs.mpy_base.World.{PortState}
use Rattle.meant_files.specs.mpy_io.Ports.{PortView}
use Rattle.meant_files.specs.port_set.Calls.{Tell}
use Rattle.meant_files.specs.port_set.Counts.{AreAccounted}
use Rattle.library_files.specs.bc_library.Shelf.{Shelf}
use Rattle.meant_files.specs.vm_frames.bc_machine.Library.{Name}
use Rattle.run_commands.specs.library_runs.declared.ending.RunEnd.{RunEnd}
use Rattle.run_commands.specs.library_runs.Runs.{Sight, IsOver, RunsAs}

-- the sink of the output tells what was printed, and each port its contents
pub record Tells (sight : Sight) : Type 0 where
  pub printed : List ℕ
  pub out : sight.out ≡ Some printed
  pub ports : List PortState
  pub told : Tell sight.ports ports

-- the run was made up to its end or for all its steps, and each port's count of faults is accounted for
pub record IsWholeRun (shelf : Shelf) (name : Name) (room : Room) (steps : ℕ) (old new : Sight) (end : RunEnd) (said : List ℕ) : Type 0 where
  pub runs : RunsAs shelf name room steps old new end said
  pub over : IsOver end
  pub accounted : AreAccounted old.ports new.ports

-- two runs printed the same, and left the ports with the same contents
pub record AreAlike (new_a new_b : Sight) : Type 0 where
  pub out : new_a.out ≡ new_b.out
  pub ports : map (λ (view : PortView). view.told) new_a.ports ≡ map (λ (view : PortView). view.told) new_b.ports
