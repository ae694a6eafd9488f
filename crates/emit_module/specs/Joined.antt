-- The children of a text's code.
use Rattle.std.specs.Prelude.{◌≡◌, ℕ, ◌+◌, List, map, Some, slice_get}
use Rattle.tr_source.specs.py_meaning.Program.{Text}
use Rattle.tr_source.specs.bc_machine.Library.{Code}
use Rattle.emit_measures.specs.bc_scheme.Translation.{own}
use Rattle.emit_stmt.specs.Children.{Made, made}
use Rattle.emit_module.specs.Own.{IsFound}

-- they are those of the text's own functions
pub record HasChildren (codes : List Code) (text : Text) (code : Code) : Type 0 where
  pub children : code.children ≡ map (λ n. text.base + n) (own text.body)
  pub functions : (i : ℕ) (function : Made) → slice_get (made text.body) i ≡ Some function → IsFound codes (text.base + function.number) function
