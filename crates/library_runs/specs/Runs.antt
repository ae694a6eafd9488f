-- How a run of a library of files ends, and what is seen of it.
use Rattle.std.specs.Prelude.{◌≡◌, ◌⊎◌, ℕ, ◌+◌, ◌<◌, ◌≤◌, List, [], ◌++◌, map, Bool, true, false, Option, None, Some}
use Rattle.std.specs.Io.KnownBytes.{Appends}
use Rattle.mpy_base.specs.declared.room.NoRoom.{NoRoom}
use Rattle.mpy_base.specs.declared.room.Room.{Room}
use Rattle.mpy_base.specs.Val.{PlainWorld}
use Rattle.mpy_base.specs.World.{PortState}
use Rattle.mpy_io.specs.Count.{Rose}
use Rattle.mpy_io.specs.Ports.{PortView}
use Rattle.mpy_io.specs.Told.{AppendsFront}
use Rattle.port_set.specs.Calls.{Tell}
use Rattle.port_set.specs.Counts.{RoseBeyond}
use Rattle.bc_library.specs.Shelf.{Shelf}
use Rattle.vm_machine.specs.vm_frames.py_effects.Ends as plain
use Rattle.vm_machine.specs.vm_frames.py_effects.Ends.{End, Run, end_report, new_world}
use Rattle.vm_machine.specs.vm_frames.py_effects.Growth.{Starts}
use Rattle.bc_machine.specs.py_values.Shown.{PlainHeap}
use Rattle.vm_machine.specs.vm_frames.bc_machine.Library.{Name, Library}
use Rattle.vm_machine.specs.vm_frames.bc_machine.State.{State}
use Rattle.vm_machine.specs.vm_frames.bc_machine.Machine.{run_of, start, steps as steps_of}
use Rattle.vm_machine.specs.vm_frames.bc_machine.Behind.{behind}
use Rattle.prim_outputs.specs.Rooms.{room_line}
use Rattle.vm_machine.specs.vm_starting.vm_states.Means.{Program}
use Rattle.vm_machine.specs.vm_starting.Programs.{IsProgramOf}
use Rattle.vm_machine.specs.vm_starting.declared.opening.Vm.{Vm}
use Rattle.vm_machine.specs.Machine.{IsVm, machine_of}
use Rattle.vm_machine.specs.Running.{Outside, Strays}
use Rattle.library_runs.specs.declared.ending.RunEnd.{RunEnd}
use Rattle.library_runs.specs.declared.ending.RunEnd.TheVariants as ends

-- what the sink of the output and the ports tell
pub record Sight : Type 0 where
  pub out : Option (List ℕ)
  pub ports : List PortView

-- what these tell, by their members
abbrev pub sight : {S P : Type 0} → (told : S → Option (List ℕ)) → (seen : P → PortView) → S → List P → Sight
sight told seen out ports = record { out = told out; ports = map seen ports }

-- an end of the machine's run. One that is open has taken all its steps
abbrev pub end_of : End → RunEnd
end_of plain.Open = ends.Limit
end_of plain.Ended = ends.Ended
end_of (plain.Raised x) = ends.Raised
end_of (plain.Memory room) = ends.Memory

-- what is said of it: the report of an exception that nothing caught, or the line of a making that doesn't fit
abbrev pub said_of : PlainHeap → End → List ℕ
said_of heap plain.Open = []
said_of heap plain.Ended = []
said_of heap (plain.Raised x) = end_report heap (plain.Raised x)
said_of heap (plain.Memory room) = room_line room

-- whether it is said of a run how it ended
abbrev pub speaks : RunEnd → Bool
speaks ends.Ended = false
speaks ends.Raised = true
speaks ends.Memory = true
speaks ends.Limit = false
speaks ends.WriteFault = false
speaks ends.NoMemory = false

-- the run was made up to its end, or for all its steps
abbrev pub IsOver : RunEnd → Type 0
IsOver ends.Ended = Unit {0}
IsOver ends.Raised = Unit {0}
IsOver ends.Memory = Unit {0}
IsOver ends.Limit = Unit {0}
IsOver ends.WriteFault = ⊥
IsOver ends.NoMemory = ⊥

-- whether the count of faults of the output's sink rose
abbrev pub is_write_fault : RunEnd → Bool
is_write_fault ends.Ended = false
is_write_fault ends.Raised = false
is_write_fault ends.Memory = false
is_write_fault ends.Limit = false
is_write_fault ends.WriteFault = true
is_write_fault ends.NoMemory = false

-- only these two say something: the report of an exception, and the numbers of a room
abbrev pub IsSaid : RunEnd → List ℕ → Type 0
IsSaid ends.Ended said = said ≡ []
IsSaid ends.Raised said = (heap : PlainHeap) × (x : ℕ) × (said ≡ end_report heap (plain.Raised x))
IsSaid ends.Memory said = (room : NoRoom) × (said ≡ room_line room)
IsSaid ends.Limit said = said ≡ []
IsSaid ends.WriteFault said = said ≡ []
IsSaid ends.NoMemory said = said ≡ []

-- from a state on
-- ===============

-- the run of a library from a state on, by how many steps it took
abbrev pub run_from : Library → State → ℕ → Run
run_from library from taken = run_of (steps_of library taken from)

-- a library, the state from which it is run, and for how many steps
module _ (library : Library) (from : State) (steps : ℕ) where
  -- it ended so, and this was said of it. Its output was added to what was printed, and the ports tell its ports
  pub record RanFrom (old new : Sight) (end : RunEnd) (said : List ℕ) : Type 0 where
    pub end_is : end ≡ end_of (run_from library from steps).end
    pub said_is : said ≡ said_of (run_from library from steps).world.heap (run_from library from steps).end
    pub output : Appends old.out new.out (run_from library from steps).world.output
    pub told : Tell new.ports (run_from library from steps).world.ports

  -- The sink failed: a front of its output was added, all that was printed behind some step, and a front of what the next one prints. The
  -- ports tell those that it had behind that step.
  pub record CutFrom (old new : Sight) : Type 0 where
    pub output : AppendsFront old.out new.out (run_from library from steps).world.output
    pub taken : ℕ
    pub within : taken ≤ steps
    pub told : Tell new.ports (run_from library from taken).world.ports
    pub more : List ℕ
    pub added : Appends old.out new.out ((run_from library from taken).world.output ++ more)
    pub next : (more ≡ []) ⊎ ((taken < steps) × Starts ((run_from library from taken).world.output ++ more) (run_from library from (taken + 1)).world.output)

  -- the run ended so, with what was said, between what was seen before and behind it
  abbrev pub EndsFrom : (old new : Sight) → RunEnd → List ℕ → Type 0
  EndsFrom old new ends.Ended said = RanFrom old new ends.Ended said
  EndsFrom old new ends.Raised said = RanFrom old new ends.Raised said
  EndsFrom old new ends.Memory said = RanFrom old new ends.Memory said
  EndsFrom old new ends.Limit said = RanFrom old new ends.Limit said
  EndsFrom old new ends.WriteFault said = CutFrom old new
  EndsFrom old new ends.NoMemory said = new ≡ old

-- of a main module
-- ================

-- a program of the library, the name of its main module, and its ports
module _ (p : Program) (name : Name) (room : Room) (steps : ℕ) (ports : List PortState) where
  -- the first state of its run
  abbrev pub first_state : State
  first_state = start p.library name (new_world room.cells room.bytes ports)

  -- it ended so, or the sink failed, in the machine's run from there on
  abbrev pub Ran : (old new : Sight) → RunEnd → (said : List ℕ) → Type 0
  Ran old new end said = RanFrom p.library first_state steps old new end said

  abbrev pub CutShort : (old new : Sight) → Type 0
  CutShort old new = CutFrom p.library first_state steps old new

  -- the run ended so, with what was said, between what was seen before and behind it
  abbrev pub EndsSo : (old new : Sight) → RunEnd → (said : List ℕ) → Type 0
  EndsSo old new end said = EndsFrom p.library first_state steps old new end said

  -- the world in which it begins behind what was printed
  abbrev pub begins_in : List ℕ → PlainWorld
  begins_in printed = behind printed (new_world room.cells room.bytes ports)

  -- A port failed, though the machine's call of it doesn't fail. Up to that call the run is the machine's. In this run the port's count
  -- of faults rose beyond the faults that the port tells
  pub record Strayed (printed : List ℕ) (old new : Sight) : Type 0 where
    pub vm : Vm
    pub starts : start p.library name (begins_in printed) ≡ machine_of p vm (begins_in printed)
    pub strays : Strays (λ (told : Option (List ℕ)). told) p vm (begins_in printed) steps old.ports new.ports
    pub rose : RoseBeyond strays.strays.failed.number old.ports new.ports

-- Where a run stands that took all its steps and didn't end: in each program of the library, where the sink told what was printed and the
-- ports their contents, at the machine's state behind these steps
pub record StandsAt (shelf : Shelf) (name : Name) (room : Room) (steps : ℕ) (old new : Sight) (vm : Vm) : Type 0 where
  pub is_vm : IsVm shelf vm
  pub goes_on : vm.end ≡ None
  pub stands : (p : Program) → IsProgramOf shelf p → (ports : List PortState) (printed : List ℕ) → old.out ≡ Some printed → Tell old.ports ports
      → ((after : PlainWorld)
      × (steps_of p.library steps (start p.library name (begins_in p name room steps ports printed)) ≡ machine_of p vm after))
      ⊎ Strayed p name room steps ports printed old new

-- How a run of the library's module of this name ended, in this room and with this bound on its steps: so in each program of the
-- library, of which there is one, where the sink told what was printed and the ports their contents.
pub record RunsAs (shelf : Shelf) (name : Name) (room : Room) (steps : ℕ) (old new : Sight) (end : RunEnd) (said : List ℕ) : Type 0 where
  pub program : (p : Program) × IsProgramOf shelf p
  pub is_said : IsSaid end said
  pub runs : (p : Program) → IsProgramOf shelf p → (ports : List PortState) (printed : List ℕ) → old.out ≡ Some printed → Tell old.ports ports
      → EndsSo p name room steps ports old new end said ⊎ Strayed p name room steps ports printed old new

-- how a run of the library's module of this name ended in which no port strayed, in this room and with this bound on its steps: so in each
-- program of the library, of which there is one
abbrev pub RunsSo : Shelf → Name → Room → (steps : ℕ) → (old new : Sight) → RunEnd → (said : List ℕ) → Type 0
RunsSo shelf name room steps old new end said =
    (p : Program) → IsProgramOf shelf p → (ports : List PortState) (printed : List ℕ) → old.out ≡ Some printed → Tell old.ports ports
    → EndsSo p name room steps ports old new end said

-- a text was put, or a put failed behind a front of it, and then the count of faults rose
abbrev pub Says : (old new : Option (List ℕ)) (count_old count_new : ℕ) → List ℕ → Type 0
Says old new count_old count_new text = (Appends old new text × (count_new ≡ count_old)) ⊎ (AppendsFront old new text × Rose count_old count_new)

-- of a machine that goes on
-- =========================

-- a world with these ports, where nothing was printed. Objects and modules are those of the machine that stands in it
abbrev pub with_ports : List PortState → PlainWorld
with_ports ports = new_world 0 0 ports

-- the state from which a machine goes on
abbrev pub standing : Program → Vm → List PortState → State
standing p vm ports = machine_of p vm (with_ports ports)

-- and the world in which it does so behind what was printed
abbrev pub goes_in : List PortState → (printed : List ℕ) → PlainWorld
goes_in ports printed = behind printed (with_ports ports)

-- a port failed, though the machine's call of it doesn't fail, and its count of faults rose beyond the faults that it tells
pub record StrayedOn (p : Program) (vm : Vm) (steps : ℕ) (ports : List PortState) (printed : List ℕ) (old new : Sight) : Type 0 where
  pub strays : Strays (λ (told : Option (List ℕ)). told) p vm (goes_in ports printed) steps old.ports new.ports
  pub rose : RoseBeyond strays.strays.failed.number old.ports new.ports

-- How a machine's run on ended, with this bound on its further steps: so in each program of the library, of which there is one, where the
-- sink told what was printed and the ports their contents.
pub record GoesOn (shelf : Shelf) (vm : Vm) (steps : ℕ) (old new : Sight) (end : RunEnd) (said : List ℕ) : Type 0 where
  pub program : (p : Program) × IsProgramOf shelf p
  pub is_said : IsSaid end said
  pub runs : (p : Program) → IsProgramOf shelf p → (ports : List PortState) (printed : List ℕ) → old.out ≡ Some printed → Tell old.ports ports
      → EndsFrom p.library (standing p vm ports) steps old new end said ⊎ StrayedOn p vm steps ports printed old new

-- where it stands that took all these steps and didn't end: in each such program at the machine's state behind them
pub record StandsOn (shelf : Shelf) (vm : Vm) (steps : ℕ) (old new : Sight) (left : Vm) : Type 0 where
  pub is_vm : IsVm shelf left
  pub goes_on : left.end ≡ None
  pub stands : (p : Program) → IsProgramOf shelf p → (ports : List PortState) (printed : List ℕ) → old.out ≡ Some printed → Tell old.ports ports
      → ((after : PlainWorld) × (steps_of p.library steps (machine_of p vm (goes_in ports printed)) ≡ machine_of p left after))
      ⊎ StrayedOn p vm steps ports printed old new

-- where no port strayed
-- =====================

-- Where a run stands in which no port strayed, and the machine's run of the main module by itself, behind nothing printed: at this machine's
-- state
abbrev pub StandsSo : Shelf → Name → Room → (steps : ℕ) → (old : Sight) → Vm → Type 0
StandsSo shelf name room steps old vm =
    (p : Program) → IsProgramOf shelf p → (ports : List PortState) (printed : List ℕ) → old.out ≡ Some printed → Tell old.ports ports
    → (after : PlainWorld) × (steps_of p.library steps (first_state p name room steps ports) ≡ machine_of p vm after)

-- how a machine's run on ended in which none did
abbrev pub GoesSo : Shelf → Vm → (steps : ℕ) → (old new : Sight) → RunEnd → (said : List ℕ) → Type 0
GoesSo shelf vm steps old new end said =
    (p : Program) → IsProgramOf shelf p → (ports : List PortState) (printed : List ℕ) → old.out ≡ Some printed → Tell old.ports ports
    → EndsFrom p.library (standing p vm ports) steps old new end said
