-- Which names are asked for while a text is judged.
use Rattle.std.specs.Prelude.{◌≡◌, ◌⊎◌, ℕ, []}
use Rattle.py_scopes.specs.declared.names.Tells.{Tells}
use Rattle.py_scopes.specs.declared.names.Tells.TheVariants.{Occurring}
use Rattle.py_scopes.specs.Names.{Table}

-- those that occur; or any, where no name is declared in any function
abbrev pub Asks : Tells → Table → Type 0
Asks tells declared = (tells ≡ Occurring) ⊎ ((f : ℕ) → declared f ≡ [])
