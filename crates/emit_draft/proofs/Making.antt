-- Instructions of a draft, one behind another, and how they are read.
use Rattle.std.proofs.Common.{◌≡◌, ◌<◌, ℕ, suc, ◌+◌, List, [], ◌∷◌, ◌++◌, length, map, take, get_or, refl, sym, ap, ap₂, subst, ◌∙◌, arith}
use Rattle.std.proofs.lemmas.List.{length-map, take_more}
use Rattle.mpy_base.specs.Val.{Val, Str}
use Rattle.emit_measures.specs.bc_scheme.mpy_tree.declared.module.Item.{Item}
use Rattle.emit_measures.specs.bc_scheme.mpy_tree.declared.module.Constant.TheVariants as consts
use Rattle.emit_measures.specs.bc_scheme.mpy_tree.declared.module.Constant.TheOpen.{Constant-F}
use Rattle.emit_measures.specs.bc_scheme.mpy_tree.declared.module.Constant.TheFolds.{fold-roll-Constant}
use Rattle.emit_measures.specs.bc_scheme.mpy_tree.Values.{value_of, constant_step}
use Rattle.emit_measures.specs.bc_scheme.mpy_tree.Resolved.{Body, IsBodyOf, Resolved, ResolvedLine, instrs_of, line_numbers, resolved_item, lines_of}
use Rattle.emit_measures.specs.bc_scheme.mpy_tree.declared.module.Code.{Code}
use Rattle.emit_measures.specs.bc_scheme.bc_machine.Library.{Line, line_of}
use Rattle.emit_draft.specs.declared.draft.Draft.{Draft}
use Rattle.emit_draft.specs.declared.draft.DraftLine.{DraftLine}
use Rattle.emit_draft.specs.Draft.{Labels}
use Rattle.emit_draft.specs.Emits.{line_at}
use Rattle.emit_draft.specs.declared.codes.CodeHead.{CodeHead}
use Rattle.emit_draft.specs.declared.codes.CodeLines.{CodeLines}
use Rattle.emit_draft.specs.Finished.{IsMade, AreMade, line_number, IsFinished, IsCodeOf, body_of}

pub str_value : (text : List ℕ) → value_of (consts.Str text) ≡ Str text
str_value text = ap value_of (sym (consts.rolls-Str text)) ∙ fold-roll-Constant Val constant_step (Constant-F.Str text)

module _ (labels : Labels) where
  pub made_on : (ds : List DraftLine) (items : List Item) (d : DraftLine) (made : Item) → AreMade labels ds items → IsMade labels d.item made → AreMade labels (ds ++ d ∷ []) (items ++ made ∷ [])
  made_on [] items d made h k = subst (λ z. AreMade labels (d ∷ []) (z ++ made ∷ [])) (sym h) (made, [], refl, k, refl)
  made_on (x ∷ ds) items d made h k =
      (h.0, h.1 ++ made ∷ [], ap (λ z. z ++ made ∷ []) h.2, h.3, made_on ds h.1 d made h.4 k)

  pub made_count : (ds : List DraftLine) (items : List Item) → AreMade labels ds items → length items ≡ length ds
  made_count [] items h = ap length h
  made_count (d ∷ ds) items h = ap length h.2 ∙ ap suc (made_count ds h.1 h.4)

  pub made_reads : (size : ℕ) (ds : List DraftLine) (items : List Item) → AreMade labels ds items
      → map (line_of size) (lines_of (map resolved_item items) (map line_number ds)) ≡ map (line_at labels) ds
  made_reads size [] items h = ap (λ z. map (line_of size) (lines_of (map resolved_item z) [])) h
  made_reads size (d ∷ ds) items h =
      ap (λ z. map (line_of size) (lines_of (map resolved_item z) (map line_number (d ∷ ds)))) h.2
      ∙ ap₂ (λ i (ls : List Line). record { item = i; line = d.line } ∷ ls) (h.3 size) (made_reads size ds h.1 h.4)

-- ---- bodies

lines_again : (ls : List ResolvedLine) → lines_of (map (λ (l : ResolvedLine). l.item) ls) (map (λ (l : ResolvedLine). l.line) ls) ≡ ls
lines_again [] = refl
lines_again (l ∷ ls) = ap (λ (z : List ResolvedLine). l ∷ z) (lines_again ls)

pub body_reads : (d : Draft) (head : CodeHead) (made : CodeLines) (children : List Code) (code : Code) (body : Body) → IsFinished d made → IsCodeOf head made children code → IsBodyOf code body
    → map (line_of (length body.lines)) body.lines ≡ map (line_at d.labels.items) d.lines
body_reads d head made children code body f is b =
    let size = length body.lines in
    let items : instrs_of body ≡ map resolved_item made.instrs = b.instrs ∙ ap (map resolved_item) is.instrs in
    let numbers : line_numbers body ≡ made.lines = b.lines ∙ is.lines in
    ap (map (line_of size)) (sym (lines_again body.lines) ∙ ap₂ lines_of items numbers) ∙ f.reads size

items_of : (items : List Resolved) (numbers : List ℕ) → length items ≡ length numbers → map (λ (l : ResolvedLine). l.item) (lines_of items numbers) ≡ items
items_of [] numbers e = refl
items_of (i ∷ items) [] e = absurd (omega arith)
items_of (i ∷ items) (n ∷ numbers) e = ap (λ z. i ∷ z) (items_of items numbers (omega arith))

numbers_of : (items : List Resolved) (numbers : List ℕ) → length items ≡ length numbers → map (λ (l : ResolvedLine). l.line) (lines_of items numbers) ≡ numbers
numbers_of [] [] e = refl
numbers_of [] (n ∷ numbers) e = absurd (omega arith)
numbers_of (i ∷ items) [] e = absurd (omega arith)
numbers_of (i ∷ items) (n ∷ numbers) e = ap (λ z. n ∷ z) (numbers_of items numbers (omega arith))

pub has_body : (d : Draft) (head : CodeHead) (made : CodeLines) (children : List Code) (code : Code) → IsFinished d made → IsCodeOf head made children code → IsBodyOf code (body_of head made)
has_body d head made children code f is =
    let count : length (map resolved_item made.instrs) ≡ length made.lines = length-map made.instrs resolved_item ∙ f.count in
    record {
      name = sym is.name;
      args = sym is.args;
      defaults = sym is.defaults;
      n_state = sym is.n_state;
      n_exc = sym is.n_exc;
      instrs = items_of (map resolved_item made.instrs) made.lines count ∙ ap (map resolved_item) (sym is.instrs);
      lines = numbers_of (map resolved_item made.instrs) made.lines count ∙ sym is.lines;
    }

pub made_next : (labels : Labels) (ds : List DraftLine) (i : ℕ) (items next : List Item) (d : DraftLine) (made : Item) → AreMade labels (take i ds) items → i < length ds → d ≡ get_or ds i d → IsMade labels d.item made
    → next ≡ items ++ made ∷ [] → AreMade labels (take (i + 1) ds) next
made_next labels ds i items next d made h l is k e =
    let more : take (i + 1) ds ≡ take i ds ++ d ∷ [] = take_more ds i d l ∙ ap (λ z. take i ds ++ z ∷ []) (sym is) in
    subst (λ z. AreMade labels z next) (sym more) (subst (AreMade labels (take i ds ++ d ∷ [])) (sym e) (made_on labels (take i ds) items d made h k))

pub finished : (d : Draft) (made : CodeLines) (labels : Labels) (lines : List DraftLine) (items : List Item) (numbers : List ℕ) → AreMade labels lines items → numbers ≡ map line_number lines
    → lines ≡ d.lines → labels ≡ d.labels.items → made.instrs ≡ items → made.lines ≡ numbers → IsFinished d made
finished d made labels lines items numbers h n same names instrs ns = record {
  count = ap length instrs ∙ made_count labels lines items h ∙ sym (length-map lines line_number) ∙ ap length (sym (ns ∙ n));
  reads = λ size.
      ap₂ (λ (is : List Item) (ks : List ℕ). map (line_of size) (lines_of (map resolved_item is) ks)) instrs (ns ∙ n)
      ∙ made_reads labels size lines items h ∙ ap₂ (λ (ls : Labels) (ds : List DraftLine). map (line_at ls) ds) names same;
}
