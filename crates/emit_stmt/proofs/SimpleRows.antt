-- Parts in a row: what stands so far, and what the rest will stand behind.
use Rattle.std.proofs.Common.{◌≡◌, ℕ, zero, suc, ◌+◌, ◌<◌, ◌≤◌, Bool, true, false, List, [], ◌∷◌, length, drop, get_or, add-one, arith, refl, sym, ap, ◌∙◌, subst}
use Rattle.std.specs.Prelude.{◌||◌, ◌↔◌, IsTrue}
use Rattle.std.proofs.lemmas.List.{drop_all}
use Rattle.emit_expr.specs.bc_machine.bc_ops.declared.instr.Op.TheVariants as ops
use Rattle.emit_expr.specs.bc_scheme.Context.{Context}
use Rattle.emit_expr.specs.emit_draft.declared.draft.Draft.{Draft}
use Rattle.emit_expr.specs.emit_draft.declared.scope.Scope.{Scope}
use Rattle.emit_expr.specs.emit_draft.Draft.{Labels, PutsCount}
use Rattle.emit_expr.specs.emit_draft.Emits.{Emits}
use Rattle.emit_expr.proofs.emit_draft_lemmas.Emits.{no_emits, count_emits, more_emits, as_emits}

-- each of the list from the end of the one before it on
abbrev pub Row : {X : Type 0} → (ℕ → X → ℕ → Type 0) → ℕ → List X → ℕ → Type 0
Row P p [] q = p ≡ q
Row P p (x ∷ xs) q = (m : ℕ) × P p x m × Row P m xs q

abbrev pub any_crowds : {X : Type 0} → (X → Bool) → List X → Bool
any_crowds crowds [] = false
any_crowds crowds (x ∷ xs) = crowds x || any_crowds crowds xs

pub record Builds {X : Type 0} (crowds : X → Bool) (P : Context → ℕ → X → ℕ → Type 0) (a b : Draft) (s : Scope) (rest all : List X) : Type 0 where
  pub by :
      Emits (length a.labels.items) a b s (any_crowds crowds rest) (any_crowds crowds all)
      (λ c labels p q. (r : ℕ) → Row (P c) q rest r → Row (P c) p all r)

pub row_begun : {X : Type 0} (crowds : X → Bool) (P : Context → ℕ → X → ℕ → Type 0) (a : Draft) (s : Scope) (all : List X) → Builds crowds P a a s all all
row_begun crowds P a s all = record {
  by = no_emits a s (any_crowds crowds all) (λ c labels p q. (r : ℕ) → Row (P c) q all r → Row (P c) p all r) (λ c labels p r h. h);
}

pub row_more : {X : Type 0} {crowds : X → Bool} {P : Context → ℕ → X → ℕ → Type 0} {a b d : Draft} {s : Scope} {x : X} {xs all : List X}
    → Builds crowds P a b s (x ∷ xs) all → Emits (length b.labels.items) b d s false (crowds x) (λ c labels p q. P c p x q) → Builds crowds P a d s xs all
row_more {crowds = crowds} {P = P} {x = x} {xs = xs} {all = all} g e = record {
  by = as_emits (λ c labels p q. (r : ℕ) → Row (P c) q xs r → Row (P c) p all r) (λ c labels p q k r h. k.1 r (q, k.2, h))
      (more_emits {v = crowds x} {r = any_crowds crowds xs} g.by e);
}

pub row_step : {X : Type 0} {crowds : X → Bool} {P : Context → ℕ → X → ℕ → Type 0} {a b d : Draft} {s : Scope} {all : List X} (xs : List X) (i : ℕ) (x : X)
    → Builds crowds P a b s (drop i xs) all → Emits (length b.labels.items) b d s false (crowds x) (λ c labels p q. P c p x q) → drop i xs ≡ x ∷ drop (i + 1) xs
    → Builds crowds P a d s (drop (i + 1) xs) all
row_step {crowds = crowds} {P = P} {a = a} {b = b} {s = s} {all = all} xs i x g e is = row_more (subst (λ z. Builds crowds P a b s z all) is g) e

pub row_ended : {X : Type 0} {crowds : X → Bool} {P : Context → ℕ → X → ℕ → Type 0} {a b : Draft} {s : Scope} {all : List X}
    → Builds crowds P a b s [] all → Emits (length a.labels.items) a b s false (any_crowds crowds all) (λ c labels p q. Row (P c) p all q)
row_ended {P = P} {all = all} g = as_emits (λ c labels p q. Row (P c) p all q) (λ c labels p q k. k q refl) g.by

pub row_done : {X : Type 0} {crowds : X → Bool} {P : Context → ℕ → X → ℕ → Type 0} {a b : Draft} {s : Scope} {all : List X} (xs : List X) (i : ℕ)
    → Builds crowds P a b s (drop i xs) all → length xs ≤ i → Emits (length a.labels.items) a b s false (any_crowds crowds all) (λ c labels p q. Row (P c) p all q)
row_done {crowds = crowds} {P = P} {a = a} {b = b} {s = s} {all = all} xs i g h = row_ended (subst (λ z. Builds crowds P a b s z all) (drop_all i xs h) g)

-- nothing in it crowds
pub never_crowds : {X : Type 0} (xs : List X) → any_crowds (λ (x : X). false) xs ≡ false
never_crowds [] = refl
never_crowds (x ∷ xs) = never_crowds xs

-- ---- drafts

right_true : (b : Bool) → (b || true) ≡ true
right_true true = refl
right_true false = refl

-- the draft became crowded: nothing is said of finished code
pub crowded_emits : (a b : Draft) (s : Scope) (P : Context → Labels → ℕ → ℕ → Type 0) → b.lines ≡ a.lines → b.labels.items ≡ a.labels.items → b.level ≡ a.level → b.crowded ≡ true
    → Emits (length a.labels.items) a b s false true P
crowded_emits a b s P lines labels level crowded =
    let over : PutsCount a b 0 ops.PopTop true 0 = record { within = λ e. cc; past = λ e. lines; labels = labels; level = level; crowded = crowded ∙ sym (right_true a.crowded) } in
    as_emits P (λ c labels p q k. let e = k.0 in cc) (count_emits a b s 0 ops.PopTop true 0 over)

-- the level of the finished code
pub level_emits : {k : ℕ} {a b : Draft} {s : Scope} {r w : Bool} {P : Context → Labels → ℕ → ℕ → Type 0}
    → Emits k a b s r w P → Emits k a b s r w (λ c labels p q. P c labels p q × (c.level ≡ a.level))
level_emits g = record { grown = g.grown; crowded = g.crowded; stands = λ c labels f. (g.stands c labels f, f.level ∙ g.grown.level) }

drop_next : {X : Type 0} (xs : List X) (i : ℕ) (d : X) → i < length xs → drop i xs ≡ get_or xs i d ∷ drop (suc i) xs
drop_next [] i d h = absurd (omega arith)
drop_next (x ∷ xs) zero d h = refl
drop_next (x ∷ xs) (suc i) d h = drop_next xs i d (omega arith)

pub drop_at : {X : Type 0} (xs : List X) (i : ℕ) (d : X) → i < length xs → drop i xs ≡ get_or xs i d ∷ drop (i + 1) xs
drop_at xs i d h = drop_next xs i d h ∙ ap (λ n. get_or xs i d ∷ drop n xs) (sym (add-one i))

pub no_items : {X : Type 0} (b : Bool) (xs : List X) → (IsTrue b ↔ (xs ≡ [])) → b ≡ true → xs ≡ []
no_items b xs h e = h.0 e
