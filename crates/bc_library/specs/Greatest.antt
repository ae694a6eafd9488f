-- The greatest numbers of slots and of handler entries.
use Rattle.std.specs.Prelude.{◌≡◌, ℕ, ◌<◌, ◌≤◌, List, Some}
use Rattle.mpy_tree.specs.declared.raw.RawCode.{RawCode, out-RawCode}
use Rattle.mpy_tree.specs.Raw.{Module}
use Rattle.bc_verify.specs.bc_prelude.declared.prelude.Prelude.{Prelude}
use Rattle.bc_verify.specs.bc_prelude.Prelude.{Begins}
use Rattle.mpy_tree.specs.Codes.{code_at}
use Rattle.bc_library.specs.Shelf.{Shelf, module_at}

-- a code, or one of those in it, begins with the prelude
pub record HasPrelude (root : RawCode) (p : Prelude) : Type 0 where
  pub path : List ℕ
  pub code : RawCode
  pub is : code_at path root ≡ Some code
  pub begins : Begins (out-RawCode code).bytes p

-- a code of a library does
pub record ShelfHas (shelf : Shelf) (p : Prelude) : Type 0 where
  pub i : ℕ
  pub m : Module
  pub there : module_at shelf i ≡ Some m
  pub has : HasPrelude m.code p

-- no prelude of these has greater numbers, and each number that isn't 0 is that of one
pub record IsGreatestIn (Has : Prelude → Type 0) (n_state n_exc : ℕ) : Type 0 where
  pub most_state : (p : Prelude) → Has p → p.n_state ≤ n_state
  pub most_exc : (p : Prelude) → Has p → p.n_exc ≤ n_exc
  pub some_state : 0 < n_state → (p : Prelude) × Has p × (p.n_state ≡ n_state)
  pub some_exc : 0 < n_exc → (p : Prelude) × Has p × (p.n_exc ≡ n_exc)
