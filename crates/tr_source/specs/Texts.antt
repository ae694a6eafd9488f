-- Texts that take no name with a dot.
use Rattle.std.specs.Prelude.{List, [], ◌∷◌}
use Rattle.emit_measures.specs.bc_scheme.py_meaning.Program.{Text}
use Rattle.emit_measures.specs.Named.{TakesUndotted}

-- no text takes a name with a dot from a module
abbrev pub AllTakeUndotted : List Text → Type 0
AllTakeUndotted [] = Unit {0}
AllTakeUndotted (text ∷ texts) = TakesUndotted text.body × AllTakeUndotted texts
