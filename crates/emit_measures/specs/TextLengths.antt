-- The length of a text among what is counted of it.
use Rattle.std.specs.Prelude.{◌≡◌}
use Rattle.bc_scheme.specs.py_meaning.Program.{Text}
use Rattle.emit_measures.specs.declared.faults.Measures.{Measures}
use Rattle.emit_measures.specs.Limits.{saturated}
use Rattle.emit_measures.specs.Lengths.{text_length}

-- the length that was counted is the text's, up to 2^64 - 1
abbrev pub HasTextLength : Text → Measures → Type 0
HasTextLength text m = m.length ≡ saturated (text_length text.locals text.level text.body)
