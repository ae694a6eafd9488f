-- The code of a text names its locals.
use Rattle.std.proofs.Common.{◌≡◌, ℕ, ◌+◌, List, [], ◌∷◌, length, map, refl, sym, ap, ap₂, ◌∙◌, subst}
use Rattle.std.specs.Prelude.{max}
use Rattle.tr_source.specs.py_meaning.Tree.{Block}
use Rattle.tr_source.specs.py_meaning.Program.{Text}
use Rattle.mpy_writer.specs.mpy_tree.Resolved.{Resolved, plain, named, object, jump, unwind, ResolvedLine, instrs_of}
use Rattle.tr_source.specs.bc_machine.Library.{Code, code_of, item_of, line_of, local_of, locals_of}
use Rattle.emit_measures.specs.bc_scheme.Context.{Context}
use Rattle.emit_measures.specs.Named.{local_in, locals_in, HasOwnLocals, TakesUndotted}
use Rattle.emit_measures.specs.Stands.{IsCodeOf}
use Rattle.emit_stmt.specs.emit_draft.declared.draft.Draft.{Draft}
use Rattle.emit_stmt.specs.emit_draft.declared.scope.Scope.{Scope}
use Rattle.emit_stmt.specs.emit_draft.declared.codes.CodeHead.{CodeHead}
use Rattle.emit_stmt.specs.emit_draft.declared.codes.CodeLines.{CodeLines}
use Rattle.emit_stmt.specs.emit_draft.Finished.{body_of}
use Rattle.emit_stmt.specs.Parts.{plain_block}
use Rattle.emit_stmt.specs.Children.{made, AreChildren}
use Rattle.emit_stmt.specs.Text.{StandsText}
use Rattle.emit_module.specs.Own.{IsWritten, IsJoined}
use Rattle.emit_module.specs.Joined.{HasChildren}
use Rattle.emit_module.proofs.Standing.{OwnNumbers, ChildrenAre, LinesAre, context, behind, a_child}

local_same : (size : ℕ) (r : Resolved) → local_in (item_of size r) ≡ local_of r
local_same size (plain instr) = refl
local_same size (named op text) = refl
local_same size (object value) = refl
local_same size (jump op target) = refl
local_same size (unwind target byte) = refl

locals_same : (size least : ℕ) (lines : List ResolvedLine) → locals_in least (map (line_of size) lines) ≡ locals_of least (map (λ (l : ResolvedLine). l.item) lines)
locals_same size least [] = refl
locals_same size least (l ∷ lines) = ap₂ max (local_same size l.item) (locals_same size least lines)

abbrev pub AllNamed : Type 0
AllNamed = (c : Context) (text : Text) → IsCodeOf c text → HasOwnLocals text → TakesUndotted text.body → locals_in (length text.params) c.lines ≡ length text.locals

-- the code of a text, among all codes of its module
pub stands_whole : OwnNumbers → ChildrenAre → LinesAre
    → (all : List Code) (text : Text) (draft : Draft) (scope : Scope) (head : CodeHead) (lines : CodeLines) (children : List ℕ) → IsWritten text draft scope head lines
    → HasChildren all text (code_of (body_of head lines) children) → IsCodeOf (context all scope.is_module text (code_of (body_of head lines) children)) text
stands_whole numbers are lines_are all text draft scope head lines children w j =
    let code : Code = code_of (body_of head lines) children in
    let c : Context = context all scope.is_module text code in
    let first = w.is_text.first in
    let is : text.body ≡ (plain_block w.stmts).make first = w.is_text.body in
    let kids : AreChildren c 0 (made text.body) =
    are c (made text.body) (j.children ∙ ap (map (λ n. text.base + n)) (numbers text.body) ∙ behind text.base (made text.body))
    (λ i m e. a_child c (text.base + m.number) m (j.functions i m e)) in
    let here = w.emitted.stands first c
    (record {
      lines = lines_are draft head lines children w.finished;
      level = w.is_text.level ∙ sym w.emitted.level;
      reads = record { is_module = refl; locals = w.is_text.locals };
      roomy = w.roomy;
    })
    (subst (λ b. AreChildren c 0 (made b)) is kids) in
    let s : StandsText c text.body = subst (λ (b : Block). StandsText c b) (sym is) here in
    record { level = refl; locals = refl; last = s.last; length = s.length; body = s.body; none = s.none; return = s.return }

pub joined : OwnNumbers → ChildrenAre → LinesAre → AllNamed
    → (all : List Code) (text : Text) (draft : Draft) (scope : Scope) (head : CodeHead) (lines : CodeLines) (children : List ℕ) → IsWritten text draft scope head lines
    → HasOwnLocals text → TakesUndotted text.body → HasChildren all text (code_of (body_of head lines) children) → IsJoined all text (code_of (body_of head lines) children)
joined numbers are lines_are all_named all text draft scope head lines children w own undotted j =
    let body = body_of head lines in
    let code : Code = code_of body children in
    let count = all_named (context all scope.is_module text code) text (stands_whole numbers are lines_are all text draft scope head lines children w j) own undotted in
    record {
      locals = ap (λ n. locals_of n (instrs_of body)) (ap length w.params) ∙ sym (locals_same (length body.lines) (length text.params) body.lines) ∙ count;
      children = j.children;
      functions = j.functions;
    }
