-- What is counted of a text while its code is made: its wide length is that of its draft, or that of its tree.
use Rattle.std.specs.Prelude.{◌≡◌, ℕ, false, [], map, Some, None}
use Rattle.mpy_base.specs.declared.source.SourceFault.{SourceFault}
use Rattle.tr_source.specs.py_meaning.Tree.{Block}
use Rattle.tr_source.specs.py_meaning.Plain.{Part}
use Rattle.tr_source.specs.py_meaning.Program.{Text}
use Rattle.emit_measures.specs.Lengths.{text_length}
use Rattle.emit_stmt.specs.emit_draft.declared.draft.Draft.{Draft}
use Rattle.emit_stmt.specs.emit_draft.declared.scope.Scope.{Scope}
use Rattle.emit_stmt.specs.emit_draft.Draft.{Labels}
use Rattle.emit_stmt.specs.emit_draft.Emits.{line_at}
use Rattle.emit_measures.specs.declared.faults.Measures.{Measures}
use Rattle.emit_measures.specs.Limits.{saturated}
use Rattle.emit_measures.specs.Faults.{fault_of, IsMeasured}
use Rattle.emit_stmt.specs.emit_draft.Wide.{wide_length}
use Rattle.emit_stmt.specs.Crowded.{crowded_block}
use Rattle.emit_stmt.specs.Text.{EmitsText}
use Rattle.emit_module.specs.First.{Site}

-- the length of the text's draft, which isn't crowded
pub record IsDraftLength (text : Text) (length : ℕ) : Type 0 where
  pub draft : Draft
  pub scope : Scope
  pub locals : scope.locals ≡ text.locals
  pub part : Part Block
  pub first : ℕ
  pub body : text.body ≡ part.make first
  pub emitted : EmitsText draft text.level scope part
  pub roomy : draft.crowded ≡ false
  pub is : (labels : Labels) → length ≡ saturated (wide_length (map (line_at labels) draft.lines))

-- the wide length of a text, on either way
pub data HasLength (text : Text) (length : ℕ) : Type 0 where
  on_draft : IsDraftLength text length → HasLength text length
  on_tree : length ≡ saturated (text_length text.locals text.level text.body) → HasLength text length

-- what is counted of a text at its place in the source
pub record AreCounted (site : Site) (text : Text) (m : Measures) : Type 0 where
  pub numbers : IsMeasured text m
  pub length : HasLength text m.length
  pub depth : m.depth ≡ site.depth
  pub crowded : m.crowded ≡ crowded_block text.level 0 text.body

-- the text passes no limit
pub record IsFine (site : Site) (text : Text) : Type 0 where
  pub counts : Measures
  pub are_counts : AreCounted site text counts
  pub none : fault_of counts ≡ None

-- the text passes a limit, in the line of its site
pub record IsBroken (site : Site) (text : Text) (fault : SourceFault) : Type 0 where
  pub counts : Measures
  pub are_counts : AreCounted site text counts
  pub code : fault_of counts ≡ Some fault.code
  pub line : fault.line ≡ site.line
  pub word : fault.word ≡ []
