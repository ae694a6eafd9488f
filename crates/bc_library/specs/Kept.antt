-- What a library keeps of its modules.
use Rattle.std.specs.Prelude.{◌≡◌, ℕ, ◌+◌, ◌≤◌, List, length, map, Some, slice_get}
use Rattle.mpy_base.specs.declared.limits.TheConstants.{MAX_DEPTH, MAX_MODULES}
use Rattle.mpy_tree.specs.File.{IsModule}
use Rattle.bc_verify.specs.qstr_pool.Pool.{Texts}
use Rattle.bc_library.specs.declared.library.Loaded.{Loaded}
use Rattle.bc_library.specs.Constants.{constants_of, values_from}
use Rattle.bc_library.specs.Fine.{Each, Fine}
use Rattle.bc_verify.specs.bc_prelude.declared.prelude.Prelude.{Prelude}
use Rattle.bc_verify.specs.Verified.{IsVerified}
use Rattle.bc_library.specs.Greatest.{HasPrelude}
use Rattle.bc_library.specs.Own.{IsOwnPool}
use Rattle.bc_library.specs.Parts.{parts_from}
use Rattle.bc_library.specs.Shelf.{Shelf, Named}
use Rattle.bc_library.specs.Texts.{AreNumbers, IsTitle}

-- what is kept of the module i
pub record IsLoaded (pool : Texts) (i : ℕ) (l : Loaded) : Type 0 where
  pub title : IsTitle pool l.name l.title
  pub numbers : AreNumbers pool l.numbers.items l.«module».qstrs
  pub values : l.values ≡ values_from i 0 l.«module».objects
  pub parts : l.parts.items ≡ parts_from i 0 (constants_of l.«module»)
  pub fine : Each (Fine MAX_DEPTH) l.«module».objects
  pub is_module : IsModule l.«module»
  pub verified : IsVerified l.«module»

-- what is kept of a library: its pool, each of its modules, and names that differ
pub record IsLibrary (modules : List Loaded) (refused : List (List ℕ)) (pool : Texts) : Type 0 where
  pub own : IsOwnPool pool
  pub loaded : (i : ℕ) (l : Loaded) → slice_get modules i ≡ Some l → IsLoaded pool i l
  pub distinct : (i k : ℕ) (a b : Loaded) → slice_get modules i ≡ Some a → slice_get modules k ≡ Some b → a.name ≡ b.name → i ≡ k
  pub few : length modules + length refused ≤ MAX_MODULES

-- a module with its name, as a library is seen
abbrev pub named : Loaded → Named
named l = record { name = l.name; held = l.«module» }

-- the library as it is seen
abbrev pub shelf_of : List Loaded → List (List ℕ) → Texts → Shelf
shelf_of modules refused pool = record { modules = map named modules; refused = refused; pool = pool }

-- a code of one of these modules begins with the prelude
pub record OneHas (modules : List Loaded) (p : Prelude) : Type 0 where
  pub i : ℕ
  pub loaded : Loaded
  pub there : slice_get modules i ≡ Some loaded
  pub has : HasPrelude loaded.«module».code p
