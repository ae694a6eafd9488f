-- No two functions of a text have the same number.
use Rattle.emit_measures.specs.bc_scheme.py_meaning.Program.{Source, source_texts}
use Rattle.emit_measures.specs.bc_scheme.py_meaning.Numbers.{AllNumbered}

-- no two functions of one text of the source have the same number
abbrev pub SourceNumbered : Source → Type 0
SourceNumbered source = AllNumbered (source_texts source.file source 0)
