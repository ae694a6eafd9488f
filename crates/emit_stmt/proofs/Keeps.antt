-- What each step of a statement's code keeps of a draft, and what stands in the code behind it.
use Rattle.std.proofs.Common.{◌≡◌, ℕ, suc, ◌≤◌, Bool, true, false, List, [], ◌∷◌, ◌++◌, length, map, Option, Some, None, refl, sym, ap, ◌∙◌, subst, arith, append_assoc, append-nil}
use Rattle.std.specs.Prelude.{slice_get, ◌||◌}
use Rattle.emit_expr.specs.bc_machine.Library.{Item, Line}
use Rattle.emit_expr.specs.bc_scheme.Context.{Context, Behind, line_in, line_before}
use Rattle.emit_expr.specs.emit_draft.declared.draft.Draft.{Draft}
use Rattle.emit_expr.specs.emit_draft.declared.draft.DraftItem.{DraftItem}
use Rattle.emit_expr.specs.emit_draft.declared.draft.DraftLine.{DraftLine}
use Rattle.emit_expr.specs.emit_draft.declared.scope.Scope.{Scope}
use Rattle.emit_expr.specs.emit_draft.Draft.{Labels, Adds, Binds}
use Rattle.emit_expr.specs.emit_draft.Emits.{label_at, item_at, line_at, After, Grown, Emits, IsItem}
use Rattle.emit_expr.proofs.emit_draft_lemmas.Lists.{or_false, left_false, right_false, get_mapped, or_then}
use Rattle.emit_expr.proofs.emit_draft_lemmas.Steps.{grown_on, after_grown, one_longer, free_added, free_on}
use Rattle.emit_expr.proofs.emit_draft_lemmas.Emits.{label_before, bind_after}
use Rattle.emit_stmt.specs.declared.jumps.Loop.{Loop}
use Rattle.emit_stmt.specs.SimpleCrowded.{passes_entries}
use Rattle.emit_stmt.specs.Steps.{last_line, PutsBehind, IsBehind, behind, Deepens, deeper_loop}

-- ---- the line of the instruction before

pub last_of : (line : ℕ) (xs : List DraftLine) (x : DraftLine) → last_line line (xs ++ x ∷ []) ≡ x.line
last_of line [] x = refl
last_of line (y ∷ ys) x = last_of y.line ys x

line_at_end : (labels : Labels) (x : DraftLine) (xs : List DraftLine) (more : List Line) → line_in (slice_get (line_at labels x ∷ (map (line_at labels) xs ++ more)) (length xs)) ≡ last_line x.line xs
line_at_end labels x [] more = refl
line_at_end labels x (y ∷ ys) more = line_at_end labels y ys more

before_end : (labels : Labels) (xs : List DraftLine) (more : List Line) → line_before (map (line_at labels) xs ++ more) (length xs) ≡ last_line 1 xs
before_end labels [] more = refl
before_end labels (x ∷ xs) more = line_at_end labels x xs more

-- ---- instructions behind a body

pub behind_grown : (a b : Draft) (item : DraftItem) → PutsBehind a b item → Grown (length a.labels.items) a b
behind_grown a b item p = record {
  below = omega arith;
  count = omega (arith, ap length p.labels);
  lines = (_, p.lines);
  old = λ l s. ap (λ (z : Labels). slice_get z l) p.labels;
  bound = λ l q e. ap (λ (z : Labels). slice_get z l) p.labels ∙ e;
  level = p.level;
  roomy = λ e. sym p.crowded ∙ e;
}

has_behind : (a b : Draft) (item : DraftItem) (s : Scope) (c : Context) (labels : Labels) → PutsBehind a b item → After b s c labels → Behind c (length a.lines) (item_at labels item)
has_behind a b item s c labels p f =
    let x : DraftLine = record { item = item; line = last_line 1 a.lines } in
    let here : Line → Option Line = Some in
    let i : Item = item_at labels item in
    let split : c.lines ≡ map (line_at labels) (a.lines ++ x ∷ []) ++ f.lines.0 = f.lines.1 ∙ ap (λ z. map (line_at labels) z ++ f.lines.0) p.lines in
    let old = after_grown (length a.labels.items) a b s c labels (behind_grown a b item p) f in
    ap (λ z. slice_get z (length a.lines)) split ∙ get_mapped (line_at labels) a.lines x f.lines.0
    ∙ ap (λ (n : ℕ). here (record { item = i; line = n })) (sym (ap (λ z. line_before z (length a.lines)) old.lines.1 ∙ before_end labels a.lines old.lines.0))

is_behind : (a b : Draft) (item : DraftItem) (s : Scope) (c : Context) (labels : Labels) → PutsBehind a b item → After b s c labels → IsBehind c (length a.lines) (item_at labels item) (length b.lines)
is_behind a b item s c labels p f =
    subst (IsBehind c (length a.lines) (item_at labels item)) (sym (one_longer a.lines b.lines _ p.lines)) (behind (has_behind a b item s c labels p f))

pub behind_emits : (a b : Draft) (s : Scope) (item : DraftItem) → PutsBehind a b item
    → Emits (length a.labels.items) a b s false false (λ c labels p q. IsBehind c p (item_at labels item) q)
behind_emits a b s item p = record {
  grown = behind_grown a b item p;
  crowded = ap (λ z. z || false) p.crowded;
  stands = λ c labels f. is_behind a b item s c labels p f;
}

-- the instruction of a name
pub behind_item : {a b : Draft} {s : Scope} {item : DraftItem} (of : Context → Item) → PutsBehind a b item → IsItem s item of
    → Emits (length a.labels.items) a b s false false (λ c labels p q. IsBehind c p (of c) q)
behind_item {a = a} {b = b} {s = s} {item = item} of p i = record {
  grown = behind_grown a b item p;
  crowded = ap (λ z. z || false) p.crowded;
  stands = λ c labels f. subst (λ z. IsBehind c (length a.lines) z (length b.lines)) (i.is c labels f.reads) (is_behind a b item s c labels p f);
}

-- an instruction behind them, with the line of the one before it
pub behind_after : {k : ℕ} {a b d : Draft} {s : Scope} {r w : Bool} {item : DraftItem} {P : Context → Labels → ℕ → ℕ → Type 0}
    → Emits k a b s r w P → PutsBehind b d item
    → Emits k a d s r w (λ c labels p q. (m : ℕ) × P c labels p m × IsBehind c m (item_at labels item) q)
behind_after {k = k} {a = a} {b = b} {d = d} {s = s} {r = r} {item = item} g p =
    let h = behind_grown b d item p in
    record {
      grown = grown_on k a b d g.grown h;
      crowded = ap (λ z. z || r) p.crowded ∙ g.crowded;
      stands = λ c labels f. (length b.lines, g.stands c labels (after_grown (length b.labels.items) b d s c labels h f), is_behind b d item s c labels p f);
    }

-- ---- one entry more

deepens_grown : (a b : Draft) (around inner : Loop) → Deepens a b around inner → Grown (length a.labels.items) a b
deepens_grown a b around inner p = record {
  below = omega arith;
  count = omega (arith, ap length p.labels);
  lines = ([], p.lines ∙ sym (append-nil a.lines));
  old = λ l s. ap (λ (z : Labels). slice_get z l) p.labels;
  bound = λ l q e. ap (λ (z : Labels). slice_get z l) p.labels ∙ e;
  level = p.level;
  roomy = λ e. left_false a.crowded (passes_entries (suc around.entries)) (sym p.crowded ∙ e);
}

pub deepens_emits : (a b : Draft) (s : Scope) (around inner : Loop) → Deepens a b around inner
    → Emits (length a.labels.items) a b s false (passes_entries (suc around.entries)) (λ c labels p q. (p ≡ q) × (inner ≡ deeper_loop around))
deepens_emits a b s around inner p = record {
  grown = deepens_grown a b around inner p;
  crowded = or_false b.crowded ∙ p.crowded;
  stands = λ c labels f. (ap length (sym p.lines), p.within (right_false a.crowded (passes_entries (suc around.entries)) (sym p.crowded ∙ f.roomy)));
}

entries_size : (passes : Bool) (f : ℕ → Bool) (i e : ℕ) → (passes ≡ false → i ≡ e) → (passes || f i) ≡ (passes || f e)
entries_size true f i e h = refl
entries_size false f i e h = ap f (h refl)

-- what is crowded in a body for which one more is held
pub deeper_size : {a b : Draft} {around inner : Loop} (f : ℕ → Bool) → Deepens a b around inner
    → (passes_entries (suc around.entries) || f inner.entries) ≡ (passes_entries (suc around.entries) || f (suc around.entries))
deeper_size {around = around} {inner = inner} f p = entries_size (passes_entries (suc around.entries)) f inner.entries (suc around.entries) (λ e. ap (λ (l : Loop). l.entries) (p.within e))

-- ---- labels

-- a label that was made in front and is free behind
pub record Holds (a b : Draft) (s : Scope) (w : Bool) (label : ℕ) (P : Context → Labels → ℕ → ℕ → Type 0) : Type 0 where
  pub by : Emits (length a.labels.items) a b s false w P
  pub number : label ≡ length a.labels.items
  pub free : slice_get b.labels.items label ≡ Some None

pub hold : {a b d : Draft} {s : Scope} {w : Bool} {l : ℕ} {P : Context → Labels → ℕ → ℕ → Type 0} → Adds a b l → Emits (length b.labels.items) b d s false w P → Holds a d s w l P
hold {a = a} {b = b} {d = d} {l = l} p g = record {
  by = label_before p g;
  number = p.number;
  free = free_on b d l g.grown (free_added a b l p);
}

pub held : {a b d : Draft} {s : Scope} {w : Bool} {l : ℕ} {P : Context → Labels → ℕ → ℕ → Type 0} → Holds a b s w l P → Binds b d l
    → Emits (length a.labels.items) a d s false w (λ c labels p q. P c labels p q × (label_at labels l ≡ q))
held h p = bind_after h.by p (omega (arith, h.number)) h.free

-- ---- other first labels

grown_less : (k l : ℕ) (a b : Draft) → k ≤ l → Grown l a b → Grown k a b
grown_less k l a b h g = record {
  below = omega (arith, g.below);
  count = g.count;
  lines = g.lines;
  old = λ i s. g.old i (omega arith);
  bound = g.bound;
  level = g.level;
  roomy = g.roomy;
}

pub less_emits : {l : ℕ} {a b : Draft} {s : Scope} {r w : Bool} {P : Context → Labels → ℕ → ℕ → Type 0} (k : ℕ) → k ≤ l → Emits l a b s r w P → Emits k a b s r w P
less_emits {l = l} {a = a} {b = b} k h g = record { grown = grown_less k l a b h g.grown; crowded = g.crowded; stands = g.stands }

grown_both : (k : ℕ) (a b d : Draft) → Grown k a b → Grown k b d → Grown k a d
grown_both k a b d g h = record {
  below = g.below;
  count = omega (arith, g.count, h.count);
  lines = (g.lines.0 ++ h.lines.0, h.lines.1 ∙ ap (λ l. l ++ h.lines.0) g.lines.1 ∙ append_assoc a.lines g.lines.0 h.lines.0);
  old = λ l s. h.old l s ∙ g.old l s;
  bound = λ l p e. h.bound l p (g.bound l p e);
  level = h.level ∙ g.level;
  roomy = λ e. g.roomy (h.roomy e);
}

pub both_emits : {k : ℕ} {a b d : Draft} {s : Scope} {w v : Bool} {P Q : Context → Labels → ℕ → ℕ → Type 0}
    → Emits k a b s false w P → Emits k b d s false v Q
    → Emits k a d s false (w || v) (λ c labels p q. (m : ℕ) × P c labels p m × Q c labels m q)
both_emits {k = k} {a = a} {b = b} {d = d} {s = s} {w = w} {v = v} g h = record {
  grown = grown_both k a b d g.grown h.grown;
  crowded = or_then a.crowded b.crowded d.crowded w v g.crowded h.crowded;
  stands = λ c labels f. (length b.lines, g.stands c labels (after_grown k b d s c labels h.grown f), h.stands c labels f);
}
