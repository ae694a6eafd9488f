-- What is known of an accepted source: the limits, and that a function's locals begin with its parameters.
use Rattle.std.specs.Prelude.{◌+◌, ◌≤◌, max, List, [], ◌∷◌, length}
use Rattle.bc_resolved.specs.mpy_base.declared.limits.TheConstants.{MAX_ITEMS}
use Rattle.emit_measures.specs.bc_scheme.py_meaning.Program.{Source, Text, source_texts}
use Rattle.emit_measures.specs.bc_scheme.py_meaning.Params.{HasSlots}
use Rattle.emit_measures.specs.bc_scheme.Heights.{held_in, tall_block}
use Rattle.tr_source.specs.Widest.{widest_block}

-- a text keeps the limits that its verified code asks for
pub record IsLimited (text : Text) : Type 0 where
  pub slots : HasSlots text
  pub held : held_in text.body ≤ 100
  pub tall : length text.locals + max 1 (tall_block text.level text.body) ≤ MAX_ITEMS
  pub wide : widest_block text.level text.body ≤ 255

-- each text keeps the limits that its verified code asks for
abbrev pub AllLimited : List Text → Type 0
AllLimited [] = Unit {0}
AllLimited (text ∷ texts) = IsLimited text × AllLimited texts

-- each text of a source keeps the limits that its verified code asks for
abbrev pub SourceLimited : Source → Type 0
SourceLimited source = AllLimited (source_texts source.file source 0)
