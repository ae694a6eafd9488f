-- What a worked program tells.
use Rattle.std.proofs.Common.{◌≡◌, ◌-◌, ℕ, ℤ, List, [], ◌∷◌, Option, codes, true}
use Rattle.std.specs.Str.{bytes_eq}
use Rattle.bc_scheme.specs.mpy_base.declared.room.Room.{Room}
use Rattle.bc_scheme.specs.mpy_base.Weights.{used}
use Rattle.bc_scheme.specs.mpy_base.World.{PortState}
use Rattle.bc_scheme.specs.mpy_tree.Resolved.{ResolvedModule}
use Rattle.bc_scheme.specs.py_tree.declared.stmt.Alias.{Alias}
use Rattle.bc_scheme.specs.py_effects.Ends.{Run, Open, report}
use Rattle.bc_scheme.specs.py_meaning.Meaning.{meaning}
use Rattle.bc_scheme.specs.py_meaning.Program.{Source, Unit, Single, Program}
use Rattle.bc_scheme.specs.py_meaning.Program as programs
use Rattle.bc_scheme.specs.bc_machine.Library.{Library, Holds, Entry, module_of}
use Rattle.bc_scheme.specs.bc_machine.Machine.{run}
use Rattle.worked_programs.proofs.Numbers.{of_run}

-- a name that is imported, and the one that it is bound to
abbrev pub alias : List ℕ → Option (List ℕ) → Alias
alias name bound = record { name = name; bound = bound }

-- a port with these answers, whose calls of these numbers fail
abbrev pub script : List ℤ → List ℕ → PortState
script answers failing = record { pending = answers; written = []; calls = 0; failing = failing }

abbrev pub room : (cells bytes : ℕ) → Room
room cells bytes = record { cells = cells; bytes = bytes }

-- a program of this main unit and these entries, and of one source alone
abbrev pub program : Unit → List (List ℕ × programs.Entry) → Program
program main entries = record { main = main; main_name = codes "__main__"; entries = entries }

abbrev pub alone : Source → Program
alone source = program (Single source) []

-- a library of this main module and these entries, and of one module only
abbrev pub holds : (name : List ℕ) → ResolvedModule → List ℕ × Entry
holds name m = (name, Holds (module_of m))

abbrev pub library : ResolvedModule → List (List ℕ × Entry) → Library
library main entries = holds (codes "__main__") main ∷ entries

abbrev pub only : ResolvedModule → Library
only main = library main []

-- what a run tells: its output, the report of its exception, and the cells that its objects use
pub record Told : Type 0 where
  pub output : List ℕ
  pub report : List ℕ
  pub cells : ℕ

abbrev pub told : Run → Told
told run = record { output = run.world.output; report = report run; cells = used run.world.heap }

-- In this room, with these ports, the program means this in so many turns, and the library runs to this in so many steps. They come to
-- one world, object by object, and one turn or one step less is open
pub record Tells (p : Program) (l : Library) (r : Room) (ports : List PortState) (turns steps : ℕ) (expected : Told) : Type 0 where
  pub means : told (meaning p r.cells r.bytes ports turns) ≡ expected
  pub runs : told (run l (codes "__main__") r.cells r.bytes ports steps) ≡ expected
  pub same : bytes_eq (of_run (meaning p r.cells r.bytes ports turns)) (of_run (run l (codes "__main__") r.cells r.bytes ports steps)) ≡ true
  pub one_turn_less : (meaning p r.cells r.bytes ports (turns - 1)).end ≡ Open
  pub one_step_less : (run l (codes "__main__") r.cells r.bytes ports (steps - 1)).end ≡ Open
