-- Code that stands, one part behind another.
use Rattle.std.proofs.Common.{◌≡◌, ℕ, ◌≤◌, Bool, false, length, Some, None, refl, sym, ap, ◌∙◌, subst}
use Rattle.std.specs.Prelude.{slice_get, ◌||◌}
use Rattle.emit_measures.specs.bc_scheme.bc_ops.declared.instr.Op.{Op}
use Rattle.emit_measures.specs.bc_scheme.bc_ops.declared.instr.Instr.TheVariants.{Num}
use Rattle.emit_measures.specs.bc_scheme.Context.{Context, number}
use Rattle.emit_draft.specs.declared.draft.Draft.{Draft}
use Rattle.emit_draft.specs.declared.draft.DraftItem.{DraftItem}
use Rattle.emit_draft.specs.declared.draft.DraftItem.TheVariants.{Plain}
use Rattle.emit_draft.specs.declared.scope.Scope.{Scope}
use Rattle.emit_draft.specs.Draft.{Labels, Puts, Adds, Binds, PutsCount}
use Rattle.emit_draft.specs.Emits.{label_at, item_at, After, Emits, IsPut, put}
use Rattle.emit_draft.proofs.Lists.{or_false, or_then, or_more, or_come, right_false}
use Rattle.emit_draft.proofs.Steps.{grown_here, grown_on, puts_grown, adds_grown, binds_grown, counts_grown, after_grown, after_bind, bound_at, has_last, one_longer}

is_put : (a b : Draft) (line : ℕ) (item : DraftItem) (s : Scope) (c : Context) (labels : Labels) → Puts a b line item → After b s c labels → IsPut c line (length a.lines) (item_at labels item) (length b.lines)
is_put a b line item s c labels p f =
    subst (IsPut c line (length a.lines) (item_at labels item)) (sym (one_longer a.lines b.lines _ p.lines)) (put (has_last a b line item s c labels p.lines p.level f))

pub put_emits : (a b : Draft) (s : Scope) (line : ℕ) (item : DraftItem) → Puts a b line item
    → Emits (length a.labels.items) a b s false false (λ c labels p q. IsPut c line p (item_at labels item) q)
put_emits a b s line item p = record {
  grown = puts_grown a b line item p;
  crowded = ap (λ z. z || false) p.crowded;
  stands = λ c labels f. is_put a b line item s c labels p f;
}

is_counted : (a b : Draft) (line : ℕ) (op : Op) (passes : Bool) (n : ℕ) (s : Scope) (c : Context) (labels : Labels) → PutsCount a b line op passes n → After b s c labels → (passes ≡ false) × IsPut c line (length a.lines) (number op n) (length b.lines)
is_counted a b line op passes n s c labels p f =
    let less : passes ≡ false = right_false a.crowded passes (sym p.crowded ∙ f.roomy) in
    (less, subst (IsPut c line (length a.lines) (number op n)) (sym (one_longer a.lines b.lines _ (p.within less))) (put (has_last a b line (Plain (Num op n)) s c labels (p.within less) p.level f)))

pub count_emits : (a b : Draft) (s : Scope) (line : ℕ) (op : Op) (passes : Bool) (n : ℕ) → PutsCount a b line op passes n
    → Emits (length a.labels.items) a b s false passes (λ c labels p q. (passes ≡ false) × IsPut c line p (number op n) q)
count_emits a b s line op passes n p = record {
  grown = counts_grown a b line op passes n p;
  crowded = or_false b.crowded ∙ p.crowded;
  stands = λ c labels f. is_counted a b line op passes n s c labels p f;
}

-- nothing yet: what stands behind goes on
pub no_emits : (a : Draft) (s : Scope) (all : Bool) (P : Context → Labels → ℕ → ℕ → Type 0) → ((c : Context) (labels : Labels) (p : ℕ) → P c labels p p)
    → Emits (length a.labels.items) a a s all all P
no_emits a s all P f = record { grown = grown_here a; crowded = refl; stands = λ c labels after. f c labels (length a.lines) }

-- one part behind another
pub then_emits : {k : ℕ} {a b d : Draft} {s : Scope} {w v : Bool} {P Q : Context → Labels → ℕ → ℕ → Type 0}
    → Emits k a b s false w P → Emits (length b.labels.items) b d s false v Q
    → Emits k a d s false (w || v) (λ c labels p q. (m : ℕ) × P c labels p m × Q c labels m q)
then_emits {k = k} {a = a} {b = b} {d = d} {s = s} {w = w} {v = v} g h = record {
  grown = grown_on k a b d g.grown h.grown;
  crowded = or_then a.crowded b.crowded d.crowded w v g.crowded h.crowded;
  stands = λ c labels f. (length b.lines, g.stands c labels (after_grown (length b.labels.items) b d s c labels h.grown f), h.stands c labels f);
}

-- one part of those that were to come
pub more_emits : {k : ℕ} {a b d : Draft} {s : Scope} {w v r : Bool} {P Q : Context → Labels → ℕ → ℕ → Type 0}
    → Emits k a b s (v || r) w P → Emits (length b.labels.items) b d s false v Q
    → Emits k a d s r w (λ c labels p q. (m : ℕ) × P c labels p m × Q c labels m q)
more_emits {k = k} {a = a} {b = b} {d = d} {s = s} {w = w} {v = v} {r = r} g h = record {
  grown = grown_on k a b d g.grown h.grown;
  crowded = or_more a.crowded b.crowded d.crowded w v r g.crowded h.crowded;
  stands = λ c labels f. (length b.lines, g.stands c labels (after_grown (length b.labels.items) b d s c labels h.grown f), h.stands c labels f);
}

-- an instruction behind them
pub put_after : {k : ℕ} {a b d : Draft} {s : Scope} {r w : Bool} {line : ℕ} {item : DraftItem} {P : Context → Labels → ℕ → ℕ → Type 0}
    → Emits k a b s r w P → Puts b d line item
    → Emits k a d s r w (λ c labels p q. (m : ℕ) × P c labels p m × IsPut c line m (item_at labels item) q)
put_after {k = k} {a = a} {b = b} {d = d} {s = s} {r = r} {line = line} {item = item} g p =
    let h = puts_grown b d line item p in
    record {
      grown = grown_on k a b d g.grown h;
      crowded = ap (λ z. z || r) p.crowded ∙ g.crowded;
      stands = λ c labels f. (length b.lines, g.stands c labels (after_grown (length b.labels.items) b d s c labels h f), is_put b d line item s c labels p f);
    }

-- a label that has no position yet
pub label_after : {k : ℕ} {a b d : Draft} {s : Scope} {r w : Bool} {l : ℕ} {P : Context → Labels → ℕ → ℕ → Type 0}
    → Emits k a b s r w P → Adds b d l → Emits k a d s r w P
label_after {k = k} {a = a} {b = b} {d = d} {s = s} {r = r} {l = l} {P = P} g p =
    let h = adds_grown b d l p in
    record {
      grown = grown_on k a b d g.grown h;
      crowded = ap (λ z. z || r) p.crowded ∙ g.crowded;
      stands = λ c labels f. subst (P c labels (length a.lines)) (ap length (sym p.lines)) (g.stands c labels (after_grown (length b.labels.items) b d s c labels h f));
    }

-- a label that is bound behind them
pub bind_after : {k : ℕ} {a b d : Draft} {s : Scope} {r w : Bool} {l : ℕ} {P : Context → Labels → ℕ → ℕ → Type 0}
    → Emits k a b s r w P → Binds b d l → k ≤ l → slice_get b.labels.items l ≡ Some None
    → Emits k a d s r w (λ c labels p q. P c labels p q × (label_at labels l ≡ q))
bind_after {k = k} {a = a} {b = b} {d = d} {s = s} {r = r} {l = l} {P = P} g p le free = record {
  grown = binds_grown k a b d l g.grown p le free;
  crowded = ap (λ z. z || r) p.crowded ∙ g.crowded;
  stands = λ c labels f. (subst (P c labels (length a.lines)) (ap length (sym p.lines)) (g.stands c labels (after_bind b d l s c labels p free f)), bound_at b d l s c labels p free f);
}

-- the same code under another pattern
pub as_emits : {k : ℕ} {a b : Draft} {s : Scope} {r w : Bool} {P : Context → Labels → ℕ → ℕ → Type 0} (Q : Context → Labels → ℕ → ℕ → Type 0)
    → ((c : Context) (labels : Labels) (p q : ℕ) → P c labels p q → Q c labels p q) → Emits k a b s r w P → Emits k a b s r w Q
as_emits {a = a} {b = b} Q f g = record {
  grown = g.grown;
  crowded = g.crowded;
  stands = λ c labels after. f c labels (length a.lines) (length b.lines) (g.stands c labels after);
}

-- an instruction with a count behind them
pub count_after : {k : ℕ} {a b d : Draft} {s : Scope} {w passes : Bool} {line n : ℕ} {op : Op} {P : Context → Labels → ℕ → ℕ → Type 0}
    → Emits k a b s false w P → PutsCount b d line op passes n
    → Emits k a d s false (w || passes) (λ c labels p q. (m : ℕ) × P c labels p m × ((passes ≡ false) × IsPut c line m (number op n) q))
count_after {b = b} {d = d} {s = s} {passes = passes} {line = line} {n = n} {op = op} g p = then_emits g (count_emits b d s line op passes n p)

-- others that are to come
pub come_emits : {k : ℕ} {a b : Draft} {s : Scope} {w : Bool} {P : Context → Labels → ℕ → ℕ → Type 0} (r : Bool) → Emits k a b s false w P → Emits k a b s r (w || r) P
come_emits {a = a} {b = b} {w = w} r g = record { grown = g.grown; crowded = or_come a.crowded b.crowded w r g.crowded; stands = g.stands }

-- the same under another name for what is crowded
pub size_emits : {k : ℕ} {a b : Draft} {s : Scope} {r w v : Bool} {P : Context → Labels → ℕ → ℕ → Type 0} → w ≡ v → Emits k a b s r w P → Emits k a b s r v P
size_emits {a = a} e g = record { grown = g.grown; crowded = g.crowded ∙ ap (λ z. a.crowded || z) e; stands = g.stands }

-- a label in front of them
pub label_before : {a b d : Draft} {s : Scope} {r w : Bool} {l : ℕ} {P : Context → Labels → ℕ → ℕ → Type 0}
    → Adds a b l → Emits (length b.labels.items) b d s r w P → Emits (length a.labels.items) a d s r w P
label_before {a = a} {b = b} {d = d} {w = w} {l = l} {P = P} p g = record {
  grown = grown_on (length a.labels.items) a b d (adds_grown a b l p) g.grown;
  crowded = g.crowded ∙ ap (λ z. z || w) p.crowded;
  stands = λ c labels f. subst (λ n. P c labels n (length d.lines)) (ap length p.lines) (g.stands c labels f);
}
