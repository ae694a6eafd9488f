-- What comes with a module that is added.
use Rattle.std.specs.Prelude.{◌≡◌, ℕ, List}
use Rattle.mpy_base.specs.declared.limits.TheConstants.{MAX_DEPTH}
use Rattle.bc_verify.specs.qstr_pool.Pool.{Texts}
use Rattle.mpy_tree.specs.File.{IsModule}
use Rattle.mpy_tree.specs.Raw.{Module}
use Rattle.bc_library.specs.declared.library.Brought.{Brought}
use Rattle.bc_library.specs.Constants.{constants_of, values_from}
use Rattle.bc_library.specs.Fine.{Each, Fine}
use Rattle.bc_library.specs.Own.{IsOwnPool}
use Rattle.bc_library.specs.Parts.{parts_from}
use Rattle.bc_library.specs.Texts.{AreNumbers, IsTitle, texts_of, with_texts}

-- what is kept beside a module that gets the number i, and the pool with its texts
pub record IsBrought (pool : Texts) (i : ℕ) (name : List ℕ) (m : Module) (longer : Texts) (k : Brought) : Type 0 where
  pub pool_is : longer ≡ with_texts pool (texts_of name m)
  pub own : IsOwnPool longer
  pub name_is : k.name ≡ name
  pub title : IsTitle longer name k.title
  pub numbers : AreNumbers longer k.numbers.items m.qstrs
  pub values : k.values ≡ values_from i 0 m.objects
  pub parts : k.parts.items ≡ parts_from i 0 (constants_of m)
  pub fine : Each (Fine MAX_DEPTH) m.objects
  pub is_module : IsModule m
