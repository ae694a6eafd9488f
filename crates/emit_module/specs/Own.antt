-- The own code of one text, and when it has none.
use Rattle.std.specs.Prelude.{◌≡◌, ℕ, ◌+◌, max, true, false, List, [], map, length, Some, None, slice_get}
use Rattle.mpy_base.specs.declared.source.SourceFault.{SourceFault}
use Rattle.mpy_base.specs.declared.refused.Refused.{Refused}
use Rattle.mpy_base.specs.declared.refused.Refused.TheVariants.{Fault, NoMemory}
use Rattle.py_tree.specs.declared.stmt.Stmt.{Stmt}
use Rattle.tr_source.specs.py_meaning.Program.{Text}
use Rattle.tr_source.specs.bc_machine.Library.{Code}
use Rattle.emit_measures.specs.bc_scheme.Heights.{tall_block, held_in}
use Rattle.emit_measures.specs.bc_scheme.Translation.{own}
use Rattle.emit_measures.specs.Lengths.{text_length}
use Rattle.emit_stmt.specs.emit_draft.declared.draft.Draft.{Draft}
use Rattle.emit_stmt.specs.emit_draft.declared.draft.DraftLine.{DraftLine}
use Rattle.emit_stmt.specs.emit_draft.declared.scope.Scope.{Scope}
use Rattle.emit_stmt.specs.emit_draft.Draft.{Labels}
use Rattle.emit_stmt.specs.emit_draft.Emits.{line_at}
use Rattle.emit_measures.specs.declared.faults.Measures.{Measures}
use Rattle.emit_measures.specs.Limits.{saturated}
use Rattle.emit_measures.specs.Faults.{fault_of, IsMeasured}
use Rattle.emit_stmt.specs.emit_draft.declared.codes.CodeHead.{CodeHead}
use Rattle.emit_stmt.specs.emit_draft.declared.codes.CodeLines.{CodeLines}
use Rattle.emit_stmt.specs.emit_draft.Finished.{IsFinished}
use Rattle.emit_stmt.specs.emit_draft.Wide.{wide_length}
use Rattle.emit_stmt.specs.Parts.{plain_block}
use Rattle.emit_stmt.specs.Children.{Made, made}
use Rattle.emit_stmt.specs.Text.{EmitsText}
use Rattle.emit_module.specs.declared.own.Place.{Place}
use Rattle.emit_module.specs.declared.own.OwnCode.{OwnCode}

-- the text of these statements, whose functions have numbers from any first one on
pub record IsTextOf (place : Place) (scope : Scope) (stmts : List Stmt) (text : Text) : Type 0 where
  pub level : text.level ≡ place.level
  pub params : place.params ≡ length text.params
  pub locals : text.locals ≡ scope.locals
  pub first : ℕ
  pub body : text.body ≡ (plain_block stmts).make first

-- what is counted of a draft's lines, wherever their labels stand
abbrev pub HasLength : List DraftLine → Measures → Type 0
HasLength lines m = (labels : Labels) → m.length ≡ saturated (wide_length (map (line_at labels) lines))

-- what is counted of a text and of its draft: the length is that of the draft, or where this is crowded that of the tree
pub record IsCounted (place : Place) (draft : Draft) (text : Text) (m : Measures) : Type 0 where
  pub numbers : IsMeasured text m
  pub roomy : draft.crowded ≡ false → HasLength draft.lines m
  pub full : draft.crowded ≡ true → m.length ≡ saturated (text_length text.locals text.level text.body)
  pub depth : m.depth ≡ place.depth
  pub crowded : m.crowded ≡ draft.crowded

-- the text passes no limit, and these are its slots, its handler entries, and its code
pub record IsOwn (place : Place) (draft : Draft) (text : Text) (code : OwnCode) : Type 0 where
  pub counts : Measures
  pub counted : IsCounted place draft text counts
  pub within : fault_of counts ≡ None
  pub roomy : draft.crowded ≡ false
  pub n_state : code.n_state ≡ length text.locals + max 1 (tall_block text.level text.body)
  pub n_exc : code.n_exc ≡ held_in text.body

-- the text passes a limit, in the line of its place
pub record IsFaulty (place : Place) (draft : Draft) (text : Text) (fault : SourceFault) : Type 0 where
  pub counts : Measures
  pub counted : IsCounted place draft text counts
  pub code : fault_of counts ≡ Some fault.code
  pub line : fault.line ≡ place.line
  pub word : fault.word ≡ []

-- why a text has no code: a limit, or want of memory
abbrev pub IsRefused : Place → Draft → Text → Refused SourceFault → Type 0
IsRefused place draft text (Fault fault) = IsFaulty place draft text fault
IsRefused place draft text NoMemory = Unit {0}

-- ---- the code of a text

-- the draft of a text without a fault, its finished code, and its head
pub record IsWritten (text : Text) (draft : Draft) (scope : Scope) (head : CodeHead) (lines : CodeLines) : Type 0 where
  pub place : Place
  pub stmts : List Stmt
  pub is_text : IsTextOf place scope stmts text
  pub emitted : EmitsText draft place.level scope (plain_block stmts)
  pub roomy : draft.crowded ≡ false
  pub finished : IsFinished draft lines
  pub name : head.name ≡ text.name
  pub params : head.args ≡ text.params
  pub given : head.defaults ≡ text.given

-- a function's code stands at its number among all codes
pub record IsFound (codes : List Code) (number : ℕ) (function : Made) : Type 0 where
  pub code : Code
  pub found : slice_get codes number ≡ Some code
  pub name : code.name ≡ function.name
  pub given : code.given ≡ function.given

-- the code's children are those of the text's own functions, and its instructions name all locals
pub record IsJoined (codes : List Code) (text : Text) (code : Code) : Type 0 where
  pub locals : code.locals ≡ length text.locals
  pub children : code.children ≡ map (λ n. text.base + n) (own text.body)
  pub functions : (i : ℕ) (function : Made) → slice_get (made text.body) i ≡ Some function → IsFound codes (text.base + function.number) function
