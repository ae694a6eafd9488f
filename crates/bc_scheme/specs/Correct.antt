-- What it is for a library to run as its program means.
use Rattle.std.specs.Prelude.{◌≡◌, ◌≤◌, ℕ, ◌+◌, ◌*◌, List, ◌++◌}
use Rattle.bc_machine.specs.mpy_base.World.{PortState}
use Rattle.bc_machine.specs.py_effects.Ends.{Run, Open}
use Rattle.bc_machine.specs.Library.{Library}
use Rattle.bc_machine.specs.Machine.{run}
use Rattle.py_meaning.specs.Program.{Program}
use Rattle.py_meaning.specs.Meaning.{meaning}

-- the run hasn't ended within its bound
abbrev pub IsOpen : Run → Type 0
IsOpen r = r.end ≡ Open

-- the run has ended
abbrev pub HasEnded : Run → Type 0
HasEnded r = r.end ≡ Open → ⊥

-- the output of the first is a front of that of the second
pub record IsBehind (first second : Run) : Type 0 where
  pub rest : List ℕ
  pub output : second.world.output ≡ first.world.output ++ rest

-- with any room and ports: where the meaning ends within t turns, the machine ends within 16 t + 16 steps in the same end and
-- world; it ends nowhere else; and while it is open its output lies between those of the meaning at two bounds
pub record Behaves (program : Program) (library : Library) (cells bytes : ℕ) (ports : List PortState) : Type 0 where
  pub ends : (t n : ℕ) → HasEnded (meaning program cells bytes ports t) → 16 * t + 16 ≤ n
      → run library program.main_name cells bytes ports n ≡ meaning program cells bytes ports t
  pub ends_only : (n : ℕ) → HasEnded (run library program.main_name cells bytes ports n)
      → (t : ℕ) × (run library program.main_name cells bytes ports n ≡ meaning program cells bytes ports t)
  pub still_open : (t n : ℕ) → IsOpen (run library program.main_name cells bytes ports n) → 16 * t + 16 ≤ n
      → IsOpen (meaning program cells bytes ports t) × IsBehind (meaning program cells bytes ports t) (run library program.main_name cells bytes ports n)
  pub ahead : (n : ℕ) → (t : ℕ) × (n ≤ t) × IsBehind (run library program.main_name cells bytes ports n) (meaning program cells bytes ports t)
