-- What a run of a library says of its program's meaning.
use Rattle.std.specs.Prelude.{◌≡◌, ℕ, ◌+◌, ◌-◌, ◌*◌, ◌/◌, ◌<◌, ◌≤◌, List}
use Rattle.library_runs.specs.mpy_base.World.{PortState}
use Rattle.trans_laws.specs.bc_scheme.py_effects.Ends.{Run}
use Rattle.trans_laws.specs.bc_scheme.py_meaning.Program.{Program}
use Rattle.trans_laws.specs.bc_scheme.py_meaning.Meaning.{meaning}
use Rattle.trans_laws.specs.bc_scheme.Correct.{HasEnded, IsOpen, IsBehind}

-- the turns that n steps suffice for: (n - 16) / 16, rounded down, and 0 below 32
abbrev pub turns_within : ℕ → ℕ
turns_within n = (n - 16) / 16

module _ (program : Program) (cells bytes : ℕ) (ports : List PortState) where
  -- the meaning ends as the run did, at a bound of turns and at every greater one: in the same end, and with the same output,
  -- ports and used room
  pub record EndsAs (r : Run) : Type 0 where
    pub bound : ℕ
    pub is : (t : ℕ) → bound ≤ t → meaning program cells bytes ports t ≡ r

  -- the run was stopped by its n steps: in the turns that they suffice for the meaning hasn't ended, what it prints in these
  -- begins what the run printed, and that begins what it prints within some greater bound
  pub record IsStopped (n : ℕ) (r : Run) : Type 0 where
    pub still_open : IsOpen (meaning program cells bytes ports (turns_within n))
    pub printed : IsBehind (meaning program cells bytes ports (turns_within n)) r
    pub bound : ℕ
    pub greater : turns_within n < bound
    pub prints_on : IsBehind r (meaning program cells bytes ports bound)

  -- the run of n steps ends as the meaning does, in time where its steps suffice for the meaning's turns, and stops earlier only at
  -- its steps
  pub record MeansRun (n : ℕ) (r : Run) : Type 0 where
    pub ended : HasEnded r → EndsAs r
    pub in_time : (t : ℕ) → HasEnded (meaning program cells bytes ports t) → 16 * t + 16 ≤ n → r ≡ meaning program cells bytes ports t
    pub stopped : IsOpen r → IsStopped n r
