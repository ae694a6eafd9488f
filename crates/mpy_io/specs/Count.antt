-- Counts of faults.
use Rattle.std.specs.Prelude.{◌≡◌, ◌⊎◌, ℕ, ◌-◌, ◌^◌, ◌<◌, Bool, MatchBool}

-- a count rose, or stands at the end of its type
abbrev pub Rose : ℕ → ℕ → Type 0
Rose old new = (old < new) ⊎ (new ≡ 2 ^ 64 - 1)

-- a count of faults rose where the call failed, and stayed elsewhere
abbrev pub Counts : ℕ → ℕ → Bool → Type 0
Counts old new failed = MatchBool failed (Rose old new) (new ≡ old)
