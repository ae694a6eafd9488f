-- The wide length of a draft, from its text's tree: its code stands in a context that has a code for each function.
use Rattle.std.proofs.Common.{◌≡◌, ℕ, zero, suc, ◌+◌, false, List, [], ◌∷◌, ◌++◌, map, replicate, Some, None, refl, sym, ap, ap₂, ◌∙◌, arith}
use Rattle.std.specs.Prelude.{slice_get}
use Rattle.tr_source.specs.py_meaning.Tree.{Block, Function, functions}
use Rattle.tr_source.specs.py_meaning.Plain.{Part}
use Rattle.tr_source.specs.py_meaning.Program.{Text}
use Rattle.tr_source.specs.bc_machine.Library.{Code}
use Rattle.emit_measures.specs.bc_scheme.Context.{Context, IsChild}
use Rattle.emit_measures.specs.bc_scheme.Translation.{own}
use Rattle.emit_measures.specs.Lengths.{text_length}
use Rattle.emit_measures.specs.Stands.{IsCodeOf}
use Rattle.emit_measures.specs.Wide.{wide_item, wide_length}
use Rattle.emit_stmt.specs.emit_draft.declared.draft.Draft.{Draft}
use Rattle.emit_stmt.specs.emit_draft.declared.draft.DraftItem.{DraftItem}
use Rattle.emit_stmt.specs.emit_draft.declared.draft.DraftItem.TheVariants as drafts
use Rattle.emit_stmt.specs.emit_draft.declared.draft.DraftLine.{DraftLine}
use Rattle.emit_stmt.specs.emit_draft.declared.scope.Scope.{Scope}
use Rattle.emit_stmt.specs.emit_draft.Draft.{Labels}
use Rattle.emit_stmt.specs.emit_draft.Emits.{item_at, line_at}
use Rattle.emit_stmt.specs.emit_draft.Children.{starts, sizes}
use Rattle.emit_stmt.specs.Children.{Made, made, AreChildren}
use Rattle.emit_stmt.specs.Text.{EmitsText, StandsText}
use Rattle.emit_module.specs.Found.{IsDefined}
use Rattle.emit_module.proofs.Finding.{defined}
use Rattle.emit_module.proofs.Standing.{OwnNumbers, ChildrenAre}

get_behind : {A : Type 0} → (n k : ℕ) (x : A) (ys : List A) → slice_get (replicate n x ++ ys) (n + k) ≡ slice_get ys k
get_behind zero k x ys = ap (slice_get ys) (let e : zero + k ≡ k = omega arith in e)
get_behind (suc n) k x ys = let e : suc n + k ≡ suc (n + k) = omega arith in ap (slice_get (replicate (suc n) x ++ ys)) e ∙ get_behind n k x ys

get_mapped : {A B : Type 0} → (f : A → B) (xs : List A) (i : ℕ) (x : A) → slice_get xs i ≡ Some x → slice_get (map f xs) i ≡ Some (f x)
get_mapped f [] i x e = cc
get_mapped f (y ∷ xs) zero x e = ap (λ o. elim o [ Some z ↦ Some (f z) | None ↦ None ]) e
get_mapped f (y ∷ xs) (suc i) x e = get_mapped f xs i x e

abbrev blank : Code
blank = record { name = []; params = []; given = 0; locals = 0; lines = []; children = [] }

abbrev of_function : Function → Code
of_function f = record blank { name = f.name; given = f.given }

-- a code for each function, by its number
abbrev code_table : ℕ → Block → List Code
code_table first block = replicate first blank ++ map of_function (functions block)

is_child : (c : Context) (first : ℕ) (block : Block) (m : Made) → c.codes ≡ code_table first block → c.base ≡ 0 → IsDefined (functions block) first m → IsChild c (c.base + m.number) m.name m.given
is_child c first block m codes base d =
    let number = d.number in
    let at : c.base + m.number ≡ first + d.place = omega (arith, number, base) in
    record {
      child = of_function d.function;
      found = ap₂ slice_get codes at ∙ get_behind first d.place blank (map of_function (functions block)) ∙ get_mapped of_function (functions block) d.place d.function d.found;
      named = d.name;
      with_given = d.given;
    }

-- labels don't change lengths
item_same : (a b : Labels) (item : DraftItem) → wide_item (item_at a item) ≡ wide_item (item_at b item)
item_same a b (drafts.Plain instr) = refl
item_same a b (drafts.Named op text) = refl
item_same a b (drafts.Str text) = refl
item_same a b (drafts.Jump op l) = refl
item_same a b (drafts.Unwind l byte) = refl

wide_same : (a b : Labels) (lines : List DraftLine) → wide_length (map (line_at a) lines) ≡ wide_length (map (line_at b) lines)
wide_same a b [] = refl
wide_same a b (line ∷ lines) = ap₂ (λ (m n : ℕ). m + n) (item_same a b line.item) (wide_same a b lines)

abbrev pub LengthsAre : Type 0
LengthsAre = (c : Context) (text : Text) → IsCodeOf c text → wide_length c.lines ≡ text_length text.locals text.level text.body

pub draft_length : OwnNumbers → ChildrenAre → LengthsAre
    → (draft : Draft) (level : ℕ) (scope : Scope) (text : Part Block) (n first : ℕ) → EmitsText draft level scope text → draft.crowded ≡ false
    → own (text.make n) ≡ starts first (sizes (text.make n)) → (labels : Labels) → wide_length (map (line_at labels) draft.lines) ≡ text_length scope.locals level (text.make n)
draft_length numbers are lengths draft level scope text n first emitted roomy counted labels =
    let block : Block = text.make n in
    let c : Context = record {
      lines = map (line_at draft.labels.items) draft.lines;
      level = level;
      is_module = scope.is_module;
      locals = scope.locals;
      children = map (λ (m : Made). 0 + m.number) (made block);
      base = 0;
      codes = code_table first block;
    } in
    let kids : AreChildren c 0 (made block) = are c (made block) refl (λ i m e. is_child c first block m refl refl (defined numbers first block counted i m e)) in
    let s : StandsText c block = emitted.stands n c (record { lines = refl; level = sym emitted.level; reads = record { is_module = refl; locals = refl }; roomy = roomy }) kids in
    let whole : Text = record { file = []; name = []; level = level; base = 0; params = []; given = 0; locals = scope.locals; body = block } in
    wide_same labels draft.labels.items draft.lines ∙ lengths c whole (record { level = refl; locals = refl; last = s.last; length = s.length; body = s.body; none = s.none; return = s.return })
