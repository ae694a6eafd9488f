-- What is the same but for some slots.
use Rattle.std.proofs.Common.{◌≡◌, ◌⊎◌, ℕ, zero, suc, ◌+◌, ◌-◌, ◌<◌, ◌≤◌, Bool, true, false, ◌&&◌, List, [], ◌∷◌, ◌++◌, length, map, get_or, drop, replicate, Option, Some, refl, sym, ap, ◌∙◌, subst, arith, inl, inr, length-drop}
use Rattle.std.specs.Bool.{OnTrue, OnFalse}
use Rattle.std.specs.Prelude.{min, max}
use Rattle.std.proofs.lemmas.Bool.{and_parts}
use Rattle.std.proofs.lemmas.List.{get_or-set_other, length-set}
use Rattle.bc_shapes.specs.declared.kinds.Kind.{Kind}
use Rattle.bc_shapes.specs.declared.kinds.Kind.TheVariants as kinds
use Rattle.bc_shapes.specs.declared.kinds.Give.{Give}
use Rattle.bc_shapes.specs.declared.kinds.Give.TheVariants.{New, Again}
use Rattle.bc_shapes.specs.declared.span.Span.{Span}
use Rattle.bc_shapes.specs.Shape.{Below, same, value, cause, join_kind, give_of, after}
use Rattle.bc_shapes.specs.Joins.{JoinsAt}
use Rattle.bc_shapes.specs.Partly.{Partly}
use Rattle.bc_shapes.specs.Spans.{In, Among, SameOutside, BelowOutside, keeps, keeps_all}
use Rattle.bc_shapes.proofs.InPlace.{slot, itself, nat_decides, le_decides, partly_start}
use Rattle.bc_shapes.proofs.Loops.{drop_uncons, get_drop}

pub keeps_values : (n v : ℕ) (gs : List Give) → keeps_all n (replicate v (New kinds.Value) ++ gs) ≡ keeps_all n gs
keeps_values n zero gs = refl
keeps_values n (suc v) gs = keeps_values n v gs

pub same_refl : (s : Span) (ks : List Kind) → SameOutside s ks ks
same_refl s ks = record { long = refl; each = λ k lt. inl refl }

pub same_trans : (r s t : Span) (ks ls ms : List Kind) → ((n : ℕ) → In r n → In t n) → ((n : ℕ) → In s n → In t n) → SameOutside r ks ls → SameOutside s ls ms → SameOutside t ks ms
same_trans r s t ks ls ms f g a b = record {
  long = b.long ∙ a.long;
  each = λ k lt. elim (b.each k (omega (arith, lt, a.long))) [
    | inl e ↦ elim (a.each k lt) [ inl h ↦ inl (e ∙ h) | inr h ↦ inr (f _ h) ]
    | inr h ↦ inr (g _ (subst (λ z. In s (z - suc k)) a.long h))
  ];
}

-- one slot met a kind
pub same_step : (s t : Span) (ks ms ns : List Kind) (i n : ℕ) (l : Kind) (c : Bool) → i < length ms → n ≡ length ms - 1 - i → ((m : ℕ) → In s m → In t m) → OnTrue c (In t n) → JoinsAt ms i l ns c → SameOutside s ks ms → SameOutside t ks ns
same_step s t ks ms ns i n l c lt e f g j h = record {
  long = ap length j.others ∙ length-set ms i (slot ns i) ∙ h.long;
  each = λ k le. by_place k le (nat_decides k i);
}
  where
    still : (k : ℕ) → k < length ks → slot ns k ≡ slot ms k → (slot ns k ≡ slot ks k) ⊎ In t (length ks - suc k)
    still k le q = elim (h.each k le) [ inl w ↦ inl (q ∙ w) | inr w ↦ inr (f _ w) ]

    here : (d : Bool) → OnTrue d (In t n) → OnFalse d (ns ≡ ms) → (k : ℕ) → k < length ks → k ≡ i → (slot ns k ≡ slot ks k) ⊎ In t (length ks - suc k)
    here true p q k le w = inr (subst (In t) (let z : n ≡ length ks - suc k = omega (arith, e, h.long, lt, w) in z) p)
    here false p q k le w = still k le (ap (λ z. slot z k) q)

    by_place : (k : ℕ) → k < length ks → (k ≡ i) ⊎ (k ≡ i → ⊥) → (slot ns k ≡ slot ks k) ⊎ In t (length ks - suc k)
    by_place k le (inl w) = here c g j.kept k le w
    by_place k le (inr w) = still k le (ap (λ z. slot z k) j.others ∙ get_or-set_other ms i k (slot ns i) kinds.Either w)

-- what lies below keeps what is there
absorbs : (l m : Kind) → Below l m → join_kind m l ≡ Some m
absorbs l m same = itself m
absorbs l m value = refl
absorbs l m cause = refl

pub joined : (o : Option Span) (ks ls : List Kind) (k : ℕ) → BelowOutside o ls ks → k < length ks → (Among o (length ks - suc k) → ⊥) → join_kind (slot ks k) (slot ls k) ≡ Some (slot ks k)
joined o ks ls k b lt f = elim (b k lt) [ inl h ↦ absorbs (slot ls k) (slot ks k) h | inr h ↦ absurd (f h) ]

pub partly_less : (ks ls ms : List Kind) (Left Then : ℕ → Type 0) (b : Bool) → ((k : ℕ) → k < length ks → Left k → Then k ⊎ (join_kind (slot ks k) (slot ls k) ≡ Some (slot ks k))) → Partly ks ls Left ms b → Partly ks ls Then ms b
partly_less ks ls ms Left Then b f p = record {
  long = p.long;
  each = λ k lt. elim (p.each k lt) [
    | inl e ↦ inl e
    | inr h ↦ elim (f k lt h.0) [ inl n ↦ inr (n, h.1) | inr e ↦ inl (e ∙ ap Some (sym h.1)) ]
  ];
  up = p.up;
  fewer = p.fewer;
  kept = p.kept;
}

abbrev Before : Option Span → ℕ → ℕ → Type 0
Before o count from = (k : ℕ) → k < from → Among o (count - suc k) → ⊥

abbrev After : Option Span → ℕ → ℕ → Type 0
After o count to = (k : ℕ) → to ≤ k → k < count → Among o (count - suc k) → ⊥

-- the given slots, those that were found, and none left
pub begins : (o : Option Span) (ks ls : List Kind) (from given count least : ℕ) → count ≡ length ks → BelowOutside o ls ks → Before o count from → least ≡ min from given → Partly ks ls (λ k. least ≤ k) ks false
begins o ks ls from given count least c b f e = partly_start ks ls (λ k. least ≤ k) (λ k lt. elim (le_decides least k) [
  | inl h ↦ inr h
  | inr h ↦ inl (joined o ks ls k b lt (subst (λ n. Among o (n - suc k) → ⊥) c (f k (omega (arith, e, h)))))
])

pub passes : (o : Option Span) (ks ls ms : List Kind) (from given count start : ℕ) (b : Bool) → count ≡ length ks → BelowOutside o ls ks → Before o count from → start ≡ max from given → Partly ks ls (λ k. given ≤ k) ms b → Partly ks ls (λ k. start ≤ k) ms b
passes o ks ls ms from given count start b c below f e p = partly_less ks ls ms (λ k. given ≤ k) (λ k. start ≤ k) b
    (λ k lt h. elim (le_decides start k) [ inl w ↦ inl w | inr w ↦ inr (joined o ks ls k below lt (subst (λ n. Among o (n - suc k) → ⊥) c (f k (omega (arith, e, h, w))))) ]) p

pub ends : (o : Option Span) (ks ls ms : List Kind) (to start count last : ℕ) (b : Bool) → count ≡ length ks → BelowOutside o ls ks → After o count to → last ≡ max to start → Partly ks ls (λ k. last ≤ k) ms b → Partly ks ls (λ k. ⊥) ms b
ends o ks ls ms to start count last b c below f e p = partly_less ks ls ms (λ k. last ≤ k) (λ k. ⊥) b
    (λ k lt h. inr (joined o ks ls k below lt (subst (λ n. Among o (n - suc k) → ⊥) c (f k (omega (arith, e, h)) (omega (arith, c, lt)))))) p

pub same_cons : (s : Span) (k l : Kind) (ks ls : List Kind) → l ≡ k → SameOutside s ks ls → SameOutside s (k ∷ ks) (l ∷ ls)
same_cons s k l ks ls e h = record { long = ap suc h.long; each = each }
  where
    each : (n : ℕ) → n < length (k ∷ ks) → (slot (l ∷ ls) n ≡ slot (k ∷ ks) n) ⊎ In s (length (k ∷ ks) - suc n)
    each zero lt = inl e
    each (suc n) lt = elim (h.each n (omega (arith, lt))) [ inl w ↦ inl w | inr w ↦ inr (subst (In s) (let q : length ks - suc n ≡ suc (length ks) - suc (suc n) = omega arith in q) w) ]

pub same_drop : (s : Span) (n : ℕ) (ks ls : List Kind) → SameOutside s ks ls → SameOutside s (drop n ks) (drop n ls)
same_drop s n ks ls h =
    let a = length-drop n ks in
    let b = length-drop n ls in
    record {
      long = omega (arith, a, b, h.long);
      each = λ k lt. elim (h.each (n + k) (omega (arith, lt, a))) [
        | inl e ↦ inl (get_drop n k ls kinds.Either ∙ e ∙ sym (get_drop n k ks kinds.Either))
        | inr w ↦ inr (subst (In s) (let q : length ks - suc (n + k) ≡ length (drop n ks) - suc k = omega (arith, a, lt) in q) w)
      ];
    }

give_same : (s : Span) (ks ls : List Kind) (g : Give) → SameOutside s ks ls → keeps (length ls - s.to) g ≡ true → give_of ls g ≡ give_of ks g
give_same s ks ls (New k) h e = refl
give_same s ks ls (Again n) h e =
    let lt : n < length ls - s.to = grind (arith, e) in
    elim (h.each n (omega (arith, lt, h.long))) [ inl w ↦ w | inr w ↦ absurd (omega (arith, lt, h.long, w.1)) ]

same_gives : (s : Span) (ks ls js ms : List Kind) (gs : List Give) → SameOutside s ks ls → keeps_all (length ls - s.to) gs ≡ true → SameOutside s js ms → SameOutside s (map (give_of ks) gs ++ js) (map (give_of ls) gs ++ ms)
same_gives s ks ls js ms [] h e r = r
same_gives s ks ls js ms (g ∷ gs) h e r =
    let p = and_parts (keeps (length ls - s.to) g) (keeps_all (length ls - s.to) gs) e in
    same_cons s (give_of ks g) (give_of ls g) (map (give_of ks) gs ++ js) (map (give_of ls) gs ++ ms) (give_same s ks ls g h p.0) (same_gives s ks ls js ms gs h p.1 r)

pub same_after : (s : Span) (gs : List Give) (n : ℕ) (ks ls : List Kind) → SameOutside s ks ls → keeps_all (length ls - s.to) gs ≡ true → SameOutside s (after gs n ks) (after gs n ls)
same_after s gs n ks ls h e = same_gives s ks ls (drop n ks) (drop n ls) gs h e (same_drop s n ks ls h)

pub keeps_step : (n : ℕ) (gs : List Give) (k : ℕ) (g : Give) → k < length gs → g ≡ get_or gs k g → keeps_all n (drop k gs) ≡ (keeps n g && keeps_all n (drop (k + 1) gs))
keeps_step n gs k g lt h = ap (keeps_all n) (drop_uncons gs k g lt h)
