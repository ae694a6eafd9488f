-- Machines in the same state, and how a run goes on in the second of them.
use Rattle.std.specs.Prelude.{◌≡◌, ℕ, ◌+◌, List, [], ◌++◌}
use Rattle.mpy_base.specs.World.{PortState}
use Rattle.mpy_base.specs.Val.{PlainWorld}
use Rattle.bc_library.specs.Shelf.{Shelf}
use Rattle.bc_machine.specs.py_effects.Ends.{End, Open, Ended, Raised, Memory, Run, report, new_world}
use Rattle.bc_machine.specs.Library.{Name}
use Rattle.bc_machine.specs.State.{State}
use Rattle.bc_machine.specs.Behind.{behind}
use Rattle.bc_machine.specs.Machine.{steps, start, run, run_of}
use Rattle.vm_starting.specs.vm_states.Means.{Program}
use Rattle.vm_starting.specs.Programs.{IsProgramOf}
use Rattle.vm_starting.specs.declared.opening.Vm.{Vm}
use Rattle.vm_machine.specs.Machine.{machine_of}
use Rattle.snap_laws.specs.Renamed.{Renaming}
use Rattle.snap_laws.specs.States.{IsState, KeepsConstants}

-- the machines are in one state of each program of the library, but for the numbers of their objects
pub record AreSame (shelf : Shelf) (vm other : Vm) : Type 0 where
  pub renaming : Renaming
  pub states : (p : Program) → IsProgramOf shelf p → (w : PlainWorld) → IsState renaming (machine_of p vm w) (machine_of p other w)
  pub keeps : (p : Program) → IsProgramOf shelf p → KeepsConstants renaming p.library

-- both are open, or ended in the same way
abbrev pub EndAlike : End → End → Type 0
EndAlike Open Open = Unit {0}
EndAlike Ended Ended = Unit {0}
EndAlike (Raised x) (Raised y) = Unit {0}
EndAlike (Memory e) (Memory d) = d ≡ e
EndAlike _ _ = ⊥

-- the rest of a run: where this was printed in front of it, it prints, tells the ports and ends as the whole does
pub record IsRestOf (front : List ℕ) (whole rest : Run) : Type 0 where
  pub output : whole.world.output ≡ front ++ rest.world.output
  pub ports : rest.world.ports ≡ whole.world.ports
  pub ends : EndAlike whole.end rest.end
  pub report : report rest ≡ report whole

-- where the first machine is `n` steps behind a state, with this printed, `m` steps of the other are the rest of `n + m` steps from there
abbrev pub ResumesAs : Program → (vm other : Vm) → Type 0
ResumesAs p vm other =
    (first : State) (n m : ℕ) (w : PlainWorld) (front : List ℕ) → machine_of p vm (behind front w) ≡ steps p.library n first
    → IsRestOf front (run_of (steps p.library (n + m) first)) (run_of (steps p.library m (machine_of p other w)))

-- in each program of the library the run of the module for `n` steps stands with the machine in a world that it has come
-- to
pub record RunsTo (shelf : Shelf) (main : Name) (cells bytes : ℕ) (ports : List PortState) (n : ℕ)
    (vm : Vm) : Type 0 where
  pub stands : (p : Program) → IsProgramOf shelf p → (world : PlainWorld)
      × (steps p.library n (start p.library main (new_world cells bytes ports)) ≡ machine_of p vm world)

-- the world where nothing was printed
abbrev pub silent : PlainWorld → PlainWorld
silent w = record w { output = [] }

-- where the run of `n` steps stands with the first machine in a world, `m` steps of the second one over that world's
-- ports are the rest of the run of `n + m` steps
abbrev pub GoesOnAs : Program → Name → (cells bytes : ℕ) → List PortState → ℕ → (vm other : Vm) → Type 0
GoesOnAs p main cells bytes ports n vm other =
    (world : PlainWorld)
    → steps p.library n (start p.library main (new_world cells bytes ports)) ≡ machine_of p vm world
    → (m : ℕ) → IsRestOf world.output (run p.library main cells bytes ports (n + m))
    (run_of (steps p.library m (machine_of p other (silent world))))
