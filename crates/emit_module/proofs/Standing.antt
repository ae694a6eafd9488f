-- The code of a text, from its draft.
use Rattle.std.proofs.Common.{◌≡◌, ℕ, ◌+◌, Bool, List, [], ◌∷◌, map, Some, refl, sym, ap, ◌∙◌, subst}
use Rattle.std.specs.Prelude.{slice_get}
use Rattle.tr_source.specs.py_meaning.Tree.{Block}
use Rattle.tr_source.specs.py_meaning.Program.{Text}
use Rattle.tr_source.specs.bc_machine.Library.{Code, code_of}
use Rattle.emit_measures.specs.bc_scheme.Context.{Context, IsChild}
use Rattle.emit_measures.specs.bc_scheme.Translation.{own, StandsCode}
use Rattle.emit_stmt.specs.emit_draft.declared.draft.Draft.{Draft}
use Rattle.emit_stmt.specs.emit_draft.declared.scope.Scope.{Scope}
use Rattle.emit_stmt.specs.emit_draft.Emits.{line_at}
use Rattle.emit_stmt.specs.emit_draft.declared.codes.CodeHead.{CodeHead}
use Rattle.emit_stmt.specs.emit_draft.declared.codes.CodeLines.{CodeLines}
use Rattle.emit_stmt.specs.emit_draft.Finished.{body_of}
use Rattle.emit_stmt.specs.emit_draft.Finished as codes
use Rattle.emit_stmt.specs.Parts.{plain_block}
use Rattle.emit_stmt.specs.Children.{Made, number_of, made, AreChildren}
use Rattle.emit_stmt.specs.Text.{StandsText}
use Rattle.emit_module.specs.Own.{IsWritten, IsFound, IsJoined}

pub behind : (base : ℕ) (ms : List Made) → map (λ n. base + n) (map number_of ms) ≡ map (λ (m : Made). base + m.number) ms
behind base [] = refl
behind base (m ∷ ms) = ap (λ (ns : List ℕ). (base + m.number) ∷ ns) (behind base ms)

abbrev pub OwnNumbers : Type 0
OwnNumbers = (block : Block) → own block ≡ map number_of (made block)

abbrev pub ChildrenAre : Type 0
ChildrenAre = (code : Context) (functions : List Made) → code.children ≡ map (λ (function : Made). code.base + function.number) functions
    → ((i : ℕ) (function : Made) → slice_get functions i ≡ Some function → IsChild code (code.base + function.number) function.name function.given)
    → AreChildren code 0 functions

abbrev pub LinesAre : Type 0
LinesAre = (draft : Draft) (head : CodeHead) (made : CodeLines) (children : List ℕ) → codes.IsFinished draft made
    → (code_of (body_of head made) children).lines ≡ map (line_at draft.labels.items) draft.lines

abbrev pub context : List Code → Bool → Text → Code → Context
context all own text code = record { lines = code.lines; level = text.level; is_module = own; locals = text.locals; children = code.children; base = text.base; codes = all }

pub a_child : (c : Context) (number : ℕ) (m : Made) → IsFound c.codes number m → IsChild c number m.name m.given
a_child c number m f = record { child = f.code; found = f.found; named = f.name; with_given = f.given }

as_code : (all : List Code) (own : Bool) (text : Text) (code : Code) → code.name ≡ text.name → code.params ≡ text.params → code.given ≡ text.given → IsJoined all text code
    → StandsText (context all own text code) text.body → StandsCode all own text code
as_code all own text code n p g j s = record {
  name = n;
  params = p;
  given = g;
  locals = j.locals;
  children = j.children;
  last = s.last;
  length = s.length;
  body = s.body;
  none = s.none;
  return = s.return;
}

pub stands : OwnNumbers → ChildrenAre → LinesAre
    → (all : List Code) (text : Text) (draft : Draft) (scope : Scope) (head : CodeHead) (lines : CodeLines) (children : List ℕ) → IsWritten text draft scope head lines
    → IsJoined all text (code_of (body_of head lines) children) → StandsCode all scope.is_module text (code_of (body_of head lines) children)
stands numbers are lines_are all text draft scope head lines children w j =
    let code : Code = code_of (body_of head lines) children in
    let c : Context = context all scope.is_module text code in
    let first = w.is_text.first in
    let is : text.body ≡ (plain_block w.stmts).make first = w.is_text.body in
    let kids : AreChildren c 0 (made text.body) =
    are c (made text.body) (j.children ∙ ap (map (λ n. text.base + n)) (numbers text.body) ∙ behind text.base (made text.body))
    (λ i m e. a_child c (text.base + m.number) m (j.functions i m e)) in
    let here = w.emitted.stands first c
    (record {
      lines = lines_are draft head lines children w.finished;
      level = w.is_text.level ∙ sym w.emitted.level;
      reads = record { is_module = refl; locals = w.is_text.locals };
      roomy = w.roomy;
    })
    (subst (λ b. AreChildren c 0 (made b)) is kids) in
    as_code all scope.is_module text code w.name w.params w.given j (subst (λ b. StandsText c b) (sym is) here)
