-- How many slots and handler entries codes take, and plans have room for.
use Rattle.std.specs.Prelude.{◌≡◌, ℕ, ◌≤◌, List, Some}
use Rattle.bc_verify.specs.bc_prelude.declared.prelude.Prelude.{Prelude}
use Rattle.bc_verify.specs.bc_prelude.Prelude.{Begins}
use Rattle.bc_verify.specs.mpy_tree.declared.raw.RawCode.{RawCode, out-RawCode}
use Rattle.bc_verify.specs.mpy_tree.Raw.{Module}
use Rattle.bc_verify.specs.mpy_tree.Codes.{code_at}
use Rattle.bc_progress.specs.Plans.{Plan}

-- no code of the module takes more than these numbers of slots and entries
abbrev pub TakesAtMost : (n_state n_exc : ℕ) → Module → Type 0
TakesAtMost n_state n_exc m =
    (path : List ℕ) (code : RawCode) (prelude : Prelude) → code_at path m.code ≡ Some code → Begins (out-RawCode code).bytes prelude
    → (prelude.n_state ≤ n_state) × (prelude.n_exc ≤ n_exc)

-- no plan has more room than these numbers of slots and entries
abbrev pub PlanAtMost : (n_state n_exc : ℕ) → (ℕ → Plan) → Type 0
PlanAtMost n_state n_exc plans = (number : ℕ) → ((plans number).n_state ≤ n_state) × ((plans number).n_exc ≤ n_exc)
