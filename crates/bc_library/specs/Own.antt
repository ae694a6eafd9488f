-- The pool of a library.
use Rattle.std.specs.Prelude.{◌≡◌, ℕ, List, None}
use Rattle.bc_verify.specs.qstr_pool.declared.table.TheConstants.{FIRST_OWN}
use Rattle.bc_verify.specs.qstr_pool.Pool.{Texts}
use Rattle.bc_verify.specs.qstr_pool.Static.{static_number_of}
use Rattle.bc_library.specs.Fine.{Each}
use Rattle.bc_library.specs.Texts.{IsPlain}

-- a text of the pool is plain, and no file may name it by a static number
pub record IsOwnText (text : List ℕ) : Type 0 where
  pub plain : IsPlain text
  pub own : static_number_of text ≡ None

-- the pool of a library: texts of its own, numbered behind the static ones
pub record IsOwnPool (pool : Texts) : Type 0 where
  pub first : pool.first ≡ FIRST_OWN
  pub each : Each IsOwnText pool.texts
