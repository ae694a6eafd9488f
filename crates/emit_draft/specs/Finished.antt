-- A draft as the instructions of a code, and a code of its parts.
use Rattle.std.specs.Prelude.{◌≡◌, ◌<◌, ◌^◌, ℕ, Bool, List, [], ◌∷◌, length, map, Some, slice_get}
use Rattle.emit_measures.specs.bc_scheme.mpy_tree.declared.module.Code.{Code, out-Code}
use Rattle.emit_measures.specs.bc_scheme.mpy_tree.declared.module.Item.{Item}
use Rattle.emit_measures.specs.bc_scheme.mpy_tree.Resolved.{Body, resolved_item, lines_of}
use Rattle.emit_measures.specs.bc_scheme.bc_machine.Library.{Name, item_of, line_of}
use Rattle.emit_draft.specs.declared.draft.Draft.{Draft}
use Rattle.emit_draft.specs.declared.draft.DraftItem.{DraftItem}
use Rattle.emit_draft.specs.declared.draft.DraftLine.{DraftLine}
use Rattle.emit_draft.specs.declared.scope.Scope.{Scope}
use Rattle.emit_draft.specs.Draft.{Labels}
use Rattle.emit_draft.specs.Emits.{item_at, line_at}
use Rattle.emit_draft.specs.declared.codes.CodeHead.{CodeHead}
use Rattle.emit_draft.specs.declared.codes.CodeLines.{CodeLines}

-- these are the scope's names, of a module's own text or not
pub record Names (scope : Scope) (own : Bool) (names : List Name) : Type 0 where
  pub is_module : scope.is_module ≡ own
  pub locals : scope.locals ≡ names

-- each position that a label has is a number of 32 bits
abbrev pub AreSmall : Labels → Type 0
AreSmall labels = (l p : ℕ) → slice_get labels l ≡ Some (Some p) → p < 2 ^ 32

-- the instruction is read as the draft's, in a code of any size
abbrev pub IsMade : Labels → DraftItem → Item → Type 0
IsMade labels item made = (size : ℕ) → item_of size (resolved_item made) ≡ item_at labels item

-- instructions are read as the draft's, one by one, in a code of any size
abbrev pub AreMade : Labels → List DraftLine → List Item → Type 0
AreMade labels [] items = items ≡ []
AreMade labels (line ∷ lines) items = (first : Item) × (others : List Item) × (items ≡ first ∷ others) × IsMade labels line.item first
    × AreMade labels lines others

-- the line of an instruction
abbrev pub line_number : DraftLine → ℕ
line_number line = line.line

-- with their lines the instructions are read as those of the draft, in a code of any size
pub record IsFinished (d : Draft) (made : CodeLines) : Type 0 where
  pub count : length made.instrs ≡ length made.lines
  pub reads : (size : ℕ) → map (line_of size) (lines_of (map resolved_item made.instrs) made.lines) ≡ map (line_at d.labels.items) d.lines

-- the code has these parts
pub record IsCodeOf (head : CodeHead) (body : CodeLines) (inner : List Code) (code : Code) : Type 0 where
  pub name : (out-Code code).name ≡ head.name
  pub args : (out-Code code).args ≡ head.args
  pub defaults : (out-Code code).defaults ≡ head.defaults
  pub n_state : (out-Code code).n_state ≡ head.n_state
  pub n_exc : (out-Code code).n_exc ≡ head.n_exc
  pub instrs : (out-Code code).instrs ≡ body.instrs
  pub lines : (out-Code code).lines ≡ body.lines
  pub children : (out-Code code).children ≡ inner

-- the body of such a code
abbrev pub body_of : CodeHead → CodeLines → Body
body_of head made = record {
  name = head.name;
  args = head.args;
  defaults = head.defaults;
  n_state = head.n_state;
  n_exc = head.n_exc;
  lines = lines_of (map resolved_item made.instrs) made.lines;
}
