-- What each step keeps of a draft, and what the code behind it has.
use Rattle.std.proofs.Common.{◌≡◌, ℕ, suc, ◌<◌, ◌≤◌, Bool, true, false, List, [], ◌∷◌, ◌++◌, length, map, Option, Some, None, nat_eq, refl, sym, ap, ◌∙◌, arith, append_assoc, append-nil, length-append}
use Rattle.std.specs.Prelude.{slice_get, if◌then◌else◌}
use Rattle.std.proofs.lemmas.List.{map-append}
use Rattle.std.proofs.lemmas.Option.{slice_get_within}
use Rattle.emit_measures.specs.bc_scheme.bc_ops.declared.instr.Op.{Op}
use Rattle.emit_measures.specs.bc_scheme.bc_machine.Library.{Line}
use Rattle.emit_measures.specs.bc_scheme.Context.{Context, Has}
use Rattle.emit_draft.specs.declared.draft.Draft.{Draft}
use Rattle.emit_draft.specs.declared.draft.DraftItem.{DraftItem}
use Rattle.emit_draft.specs.declared.draft.DraftLine.{DraftLine}
use Rattle.emit_draft.specs.declared.scope.Scope.{Scope}
use Rattle.emit_draft.specs.Draft.{Labels, shown, Puts, Adds, Binds, PutsCount}
use Rattle.emit_draft.specs.Emits.{position_in, label_at, item_at, line_at, After, Grown}
use Rattle.emit_draft.proofs.Lists.{left_false, get_mapped, get_here, get_front, get_before, set_same, set_length, set_below, set_above, set_other}

-- ---- growth

pub grown_here : (a : Draft) → Grown (length a.labels.items) a a
grown_here a = record {
  below = omega arith;
  count = omega arith;
  lines = ([], sym (append-nil a.lines));
  old = λ l h. refl;
  bound = λ l p e. e;
  level = refl;
  roomy = λ e. e;
}

pub grown_on : (k : ℕ) (a b d : Draft) → Grown k a b → Grown (length b.labels.items) b d → Grown k a d
grown_on k a b d g h = record {
  below = g.below;
  count = omega (arith, g.count, h.count);
  lines = (g.lines.0 ++ h.lines.0, h.lines.1 ∙ ap (λ l. l ++ h.lines.0) g.lines.1 ∙ append_assoc a.lines g.lines.0 h.lines.0);
  old = λ l s. h.old l (omega (arith, g.below, g.count)) ∙ g.old l s;
  bound = λ l p e. h.bound l p (g.bound l p e);
  level = h.level ∙ g.level;
  roomy = λ e. g.roomy (h.roomy e);
}

pub puts_grown : (a b : Draft) (line : ℕ) (item : DraftItem) → Puts a b line item → Grown (length a.labels.items) a b
puts_grown a b line item p = record {
  below = omega arith;
  count = omega (arith, ap length p.labels);
  lines = (_, p.lines);
  old = λ l s. ap (λ (z : Labels). slice_get z l) p.labels;
  bound = λ l q e. ap (λ (z : Labels). slice_get z l) p.labels ∙ e;
  level = p.level;
  roomy = λ e. sym p.crowded ∙ e;
}

pub adds_grown : (a b : Draft) (l : ℕ) → Adds a b l → Grown (length a.labels.items) a b
adds_grown a b l p = record {
  below = omega arith;
  count = omega (arith, ap length p.labels, length-append a.labels.items (None ∷ []));
  lines = ([], p.lines ∙ sym (append-nil a.lines));
  old = λ i s. ap (λ (z : Labels). slice_get z i) p.labels ∙ get_before a.labels.items (None ∷ []) i s;
  bound = λ i q e. ap (λ (z : Labels). slice_get z i) p.labels ∙ get_front a.labels.items (None ∷ []) i (Some q) e;
  level = p.level;
  roomy = λ e. sym p.crowded ∙ e;
}

pub binds_grown : (k : ℕ) (a b d : Draft) (l : ℕ) → Grown k a b → Binds b d l → k ≤ l → slice_get b.labels.items l ≡ Some None → Grown k a d
binds_grown k a b d l g p le free =
    let q = length b.lines in
    record {
      below = g.below;
      count = omega (arith, g.count, ap length p.labels, set_length b.labels.items l (Some q));
      lines = (g.lines.0, p.lines ∙ g.lines.1);
      old = λ i s. ap (λ (z : Labels). slice_get z i) p.labels ∙ set_below b.labels.items l i (Some q) (omega arith) ∙ g.old i s;
      bound = λ i n e. ap (λ (z : Labels). slice_get z i) p.labels ∙ set_other b.labels.items l i n q free (g.bound i n e);
      level = p.level ∙ g.level;
      roomy = λ e. g.roomy (sym p.crowded ∙ e);
    }

counts_lines : (a b : Draft) (line : ℕ) (op : Op) (passes : Bool) (number : ℕ) → PutsCount a b line op passes number → (more : List DraftLine) × (b.lines ≡ a.lines ++ more)
counts_lines a b line op true number p = ([], p.past refl ∙ sym (append-nil a.lines))
counts_lines a b line op false number p = (_, p.within refl)

pub counts_grown : (a b : Draft) (line : ℕ) (op : Op) (passes : Bool) (number : ℕ) → PutsCount a b line op passes number → Grown (length a.labels.items) a b
counts_grown a b line op passes number p = record {
  below = omega arith;
  count = omega (arith, ap length p.labels);
  lines = counts_lines a b line op passes number p;
  old = λ l s. ap (λ (z : Labels). slice_get z l) p.labels;
  bound = λ l q e. ap (λ (z : Labels). slice_get z l) p.labels ∙ e;
  level = p.level;
  roomy = λ e. left_false a.crowded passes (sym p.crowded ∙ e);
}

-- ---- finished code

pub after_grown : (k : ℕ) (a b : Draft) (s : Scope) (c : Context) (labels : Labels) → Grown k a b → After b s c labels → After a s c labels
after_grown k a b s c labels g f =
    let at : DraftLine → Line = line_at labels in
    record {
      lines = (map at g.lines.0 ++ f.lines.0, f.lines.1 ∙ ap (λ z. map at z ++ f.lines.0) g.lines.1 ∙ ap (λ z. z ++ f.lines.0) (map-append at a.lines g.lines.0) ∙ append_assoc (map at a.lines) (map at g.lines.0) f.lines.0);
      bound = λ l p e. f.bound l p (g.bound l p e);
      level = f.level ∙ g.level;
      reads = f.reads;
      roomy = g.roomy f.roomy;
    }

pub after_bind : (a b : Draft) (l : ℕ) (s : Scope) (c : Context) (labels : Labels) → Binds a b l → slice_get a.labels.items l ≡ Some None → After b s c labels → After a s c labels
after_bind a b l s c labels p free f = record {
  lines = (f.lines.0, f.lines.1 ∙ ap (λ z. map (line_at labels) z ++ f.lines.0) p.lines);
  bound = λ i n e. f.bound i n (ap (λ (z : Labels). slice_get z i) p.labels ∙ set_other a.labels.items l i n (length a.lines) free e);
  level = f.level ∙ p.level;
  reads = f.reads;
  roomy = sym p.crowded ∙ f.roomy;
}

-- where the label is bound in the end
pub bound_at : (a b : Draft) (l : ℕ) (s : Scope) (c : Context) (labels : Labels) → Binds a b l → slice_get a.labels.items l ≡ Some None → After b s c labels → label_at labels l ≡ length b.lines
bound_at a b l s c labels p free f =
    let q = length a.lines in
    ap position_in (f.bound l q (ap (λ (z : Labels). slice_get z l) p.labels ∙ set_same a.labels.items l None (Some q) free)) ∙ ap length (sym p.lines)

-- the last instruction of a draft stands in the code
pub has_last : (a b : Draft) (line : ℕ) (item : DraftItem) (s : Scope) (c : Context) (labels : Labels) → b.lines ≡ a.lines ++ record { item = item; line = shown a.level line } ∷ [] → b.level ≡ a.level → After b s c labels → Has c line (length a.lines) (item_at labels item)
has_last a b line item s c labels is level f =
    let x : DraftLine = record { item = item; line = shown a.level line } in
    let here : Line → Option Line = Some in
    ap (λ z. slice_get z (length a.lines)) (f.lines.1 ∙ ap (λ z. map (line_at labels) z ++ f.lines.0) is)
    ∙ get_mapped (line_at labels) a.lines x f.lines.0
    ∙ ap (λ (n : ℕ). here (record { item = item_at labels item; line = if nat_eq n 3 then 1 else line })) (sym (f.level ∙ level))

pub one_longer : (xs ys : List DraftLine) (x : DraftLine) → ys ≡ xs ++ x ∷ [] → length ys ≡ suc (length xs)
one_longer xs ys x e = omega (arith, ap length e, length-append xs (x ∷ []))

-- ---- free labels

pub free_added : (a b : Draft) (l : ℕ) → Adds a b l → slice_get b.labels.items l ≡ Some None
free_added a b l p = ap (slice_get b.labels.items) p.number ∙ ap (λ (z : Labels). slice_get z (length a.labels.items)) p.labels ∙ get_here a.labels.items None

pub free_on : (a b : Draft) (l : ℕ) → Grown (length a.labels.items) a b → slice_get a.labels.items l ≡ Some None → slice_get b.labels.items l ≡ Some None
free_on a b l g e = g.old l (slice_get_within a.labels.items l None e) ∙ e

pub free_put : (a b : Draft) (line : ℕ) (item : DraftItem) (l : ℕ) → Puts a b line item → slice_get a.labels.items l ≡ Some None → slice_get b.labels.items l ≡ Some None
free_put a b line item l p e = ap (λ (z : Labels). slice_get z l) p.labels ∙ e

-- a later label stays free where an earlier one is bound
pub free_later : (a b : Draft) (i l : ℕ) → Binds a b i → i < l → slice_get a.labels.items l ≡ Some None → slice_get b.labels.items l ≡ Some None
free_later a b i l p h e = ap (λ (z : Labels). slice_get z l) p.labels ∙ set_above a.labels.items i l (Some (length a.lines)) h ∙ e
