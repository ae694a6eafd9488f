-- Slots that are joined in place, one after another.
use Rattle.std.proofs.Common.{◌≡◌, ◌⊎◌, ℕ, zero, suc, ◌+◌, ◌<◌, ◌≤◌, Bool, true, false, List, [], ◌∷◌, length, get_or, set, take, drop, replicate, ◌++◌, ◌-◌, Option, Some, None, refl, sym, ap, ◌∙◌, subst, arith, inl, inr, length-drop, length-take}
use Rattle.std.specs.Bool.{OnTrue, OnFalse}
use Rattle.std.specs.Prelude.{◌||◌, not, IfNone}
use Rattle.std.proofs.lemmas.Bool.{false≢true, true≢false}
use Rattle.std.proofs.lemmas.List.{get_or-set_same, get_or-set_other, length-set, set-get_or}
use Rattle.bc_shapes.specs.declared.kinds.Kind.{Kind}
use Rattle.bc_shapes.specs.declared.kinds.Kind.TheVariants as kinds
use Rattle.bc_shapes.specs.Shape.{Below, same, value, cause, Belows, none, also, join_kind, both, join, is_either, opens, after}
use Rattle.bc_shapes.specs.Joins.{JoinsAt, Joins}
use Rattle.bc_shapes.specs.Partly.{Partly}
use Rattle.bc_shapes.specs.declared.kinds.Give.{Give}
use Rattle.bc_shapes.specs.declared.kinds.Give.TheVariants.{New}
use Rattle.bc_shapes.proofs.Loops.{at_rest, get_drop, slot_rest, gives_size}
use Rattle.bc_shapes.proofs.Joins.{on_at, join_kind_on, belows_refl, belows_trans, belows_same, opens_below}

abbrev pub slot : List Kind → ℕ → Kind
slot ks i = get_or ks i kinds.Either

some_kind : (k m : Kind) → Some k ≡ Some m → k ≡ m
some_kind k m e = cc

-- what was joined with a kind stays where it is joined again
join_again : (k l m : Kind) → join_kind k l ≡ Some m → join_kind m l ≡ Some m
join_again kinds.Value kinds.Value m e = subst (λ z. join_kind z kinds.Value ≡ Some z) (some_kind _ m e) refl
join_again kinds.Value kinds.Cause m e = cc
join_again kinds.Value kinds.Either m e = subst (λ z. join_kind z kinds.Either ≡ Some z) (some_kind _ m e) refl
join_again kinds.Value kinds.Iter1 m e = cc
join_again kinds.Value kinds.Iter2 m e = cc
join_again kinds.Value kinds.Iter3 m e = cc
join_again kinds.Value kinds.Iter4 m e = cc
join_again kinds.Value kinds.Null m e = cc
join_again kinds.Value kinds.Method m e = cc
join_again kinds.Cause kinds.Value m e = cc
join_again kinds.Cause kinds.Cause m e = subst (λ z. join_kind z kinds.Cause ≡ Some z) (some_kind _ m e) refl
join_again kinds.Cause kinds.Either m e = subst (λ z. join_kind z kinds.Either ≡ Some z) (some_kind _ m e) refl
join_again kinds.Cause kinds.Iter1 m e = cc
join_again kinds.Cause kinds.Iter2 m e = cc
join_again kinds.Cause kinds.Iter3 m e = cc
join_again kinds.Cause kinds.Iter4 m e = cc
join_again kinds.Cause kinds.Null m e = cc
join_again kinds.Cause kinds.Method m e = cc
join_again kinds.Either kinds.Value m e = subst (λ z. join_kind z kinds.Value ≡ Some z) (some_kind _ m e) refl
join_again kinds.Either kinds.Cause m e = subst (λ z. join_kind z kinds.Cause ≡ Some z) (some_kind _ m e) refl
join_again kinds.Either kinds.Either m e = subst (λ z. join_kind z kinds.Either ≡ Some z) (some_kind _ m e) refl
join_again kinds.Either kinds.Iter1 m e = cc
join_again kinds.Either kinds.Iter2 m e = cc
join_again kinds.Either kinds.Iter3 m e = cc
join_again kinds.Either kinds.Iter4 m e = cc
join_again kinds.Either kinds.Null m e = cc
join_again kinds.Either kinds.Method m e = cc
join_again kinds.Iter1 kinds.Value m e = cc
join_again kinds.Iter1 kinds.Cause m e = cc
join_again kinds.Iter1 kinds.Either m e = cc
join_again kinds.Iter1 kinds.Iter1 m e = subst (λ z. join_kind z kinds.Iter1 ≡ Some z) (some_kind _ m e) refl
join_again kinds.Iter1 kinds.Iter2 m e = cc
join_again kinds.Iter1 kinds.Iter3 m e = cc
join_again kinds.Iter1 kinds.Iter4 m e = cc
join_again kinds.Iter1 kinds.Null m e = cc
join_again kinds.Iter1 kinds.Method m e = cc
join_again kinds.Iter2 kinds.Value m e = cc
join_again kinds.Iter2 kinds.Cause m e = cc
join_again kinds.Iter2 kinds.Either m e = cc
join_again kinds.Iter2 kinds.Iter1 m e = cc
join_again kinds.Iter2 kinds.Iter2 m e = subst (λ z. join_kind z kinds.Iter2 ≡ Some z) (some_kind _ m e) refl
join_again kinds.Iter2 kinds.Iter3 m e = cc
join_again kinds.Iter2 kinds.Iter4 m e = cc
join_again kinds.Iter2 kinds.Null m e = cc
join_again kinds.Iter2 kinds.Method m e = cc
join_again kinds.Iter3 kinds.Value m e = cc
join_again kinds.Iter3 kinds.Cause m e = cc
join_again kinds.Iter3 kinds.Either m e = cc
join_again kinds.Iter3 kinds.Iter1 m e = cc
join_again kinds.Iter3 kinds.Iter2 m e = cc
join_again kinds.Iter3 kinds.Iter3 m e = subst (λ z. join_kind z kinds.Iter3 ≡ Some z) (some_kind _ m e) refl
join_again kinds.Iter3 kinds.Iter4 m e = cc
join_again kinds.Iter3 kinds.Null m e = cc
join_again kinds.Iter3 kinds.Method m e = cc
join_again kinds.Iter4 kinds.Value m e = cc
join_again kinds.Iter4 kinds.Cause m e = cc
join_again kinds.Iter4 kinds.Either m e = cc
join_again kinds.Iter4 kinds.Iter1 m e = cc
join_again kinds.Iter4 kinds.Iter2 m e = cc
join_again kinds.Iter4 kinds.Iter3 m e = cc
join_again kinds.Iter4 kinds.Iter4 m e = subst (λ z. join_kind z kinds.Iter4 ≡ Some z) (some_kind _ m e) refl
join_again kinds.Iter4 kinds.Null m e = cc
join_again kinds.Iter4 kinds.Method m e = cc
join_again kinds.Null kinds.Value m e = cc
join_again kinds.Null kinds.Cause m e = cc
join_again kinds.Null kinds.Either m e = cc
join_again kinds.Null kinds.Iter1 m e = cc
join_again kinds.Null kinds.Iter2 m e = cc
join_again kinds.Null kinds.Iter3 m e = cc
join_again kinds.Null kinds.Iter4 m e = cc
join_again kinds.Null kinds.Null m e = subst (λ z. join_kind z kinds.Null ≡ Some z) (some_kind _ m e) refl
join_again kinds.Null kinds.Method m e = cc
join_again kinds.Method kinds.Value m e = cc
join_again kinds.Method kinds.Cause m e = cc
join_again kinds.Method kinds.Either m e = cc
join_again kinds.Method kinds.Iter1 m e = cc
join_again kinds.Method kinds.Iter2 m e = cc
join_again kinds.Method kinds.Iter3 m e = cc
join_again kinds.Method kinds.Iter4 m e = cc
join_again kinds.Method kinds.Null m e = cc
join_again kinds.Method kinds.Method m e = subst (λ z. join_kind z kinds.Method ≡ Some z) (some_kind _ m e) refl

belows_set : (ks : List Kind) (i : ℕ) (m : Kind) → Below (slot ks i) m → Belows ks (set ks i m)
belows_set [] i m b = none
belows_set (k ∷ ks) zero m b = also b (belows_refl ks)
belows_set (k ∷ ks) (suc i) m b = also same (belows_set ks i m b)

-- one slot
pub joins_changed : (ks : List Kind) (i : ℕ) (l m : Kind) → i < length ks → join_kind (slot ks i) l ≡ Some m → (m ≡ slot ks i → ⊥) → JoinsAt ks i l (set ks i m) true
joins_changed ks i l m lt e f =
    let at = get_or-set_same ks i m kinds.Either lt in
    let up = belows_set ks i m (on_at (join_kind (slot ks i) l) (λ z. Below (slot ks i) z × Below l z) m e (join_kind_on (slot ks i) l)).0 in
    let le = opens_below ks (set ks i m) up in
    let ne = λ (h : opens (set ks i m) ≡ opens ks). f (sym at ∙ ap (λ z. slot z i) (belows_same ks (set ks i m) up h)) in
    record {
      met = e ∙ ap Some (sym at);
      others = ap (set ks i) (sym at);
      fewer = omega (arith, le, ne);
      kept = tt;
    }

pub joins_kept : (ks : List Kind) (i : ℕ) (l m : Kind) → join_kind (slot ks i) l ≡ Some m → m ≡ slot ks i → JoinsAt ks i l ks false
joins_kept ks i l m e f = record { met = e ∙ ap Some f; others = sym (set-get_or ks i kinds.Either); fewer = tt; kept = refl }

is_same : (k m : Kind) → Below k m → (is_either m || not (is_either k)) ≡ true → m ≡ k
is_same k m same e = refl
is_same k m value e = absurd (false≢true e)
is_same k m cause e = absurd (false≢true e)

differs : (b : Bool) → (b || not b) ≡ false → ⊥
differs true e = true≢false e
differs false e = true≢false e

-- what the code reads and finds
pub slot_changed : (ks : List Kind) (i : ℕ) (l old m : Kind) (o : Option Kind) → i < length ks → old ≡ get_or ks i old → o ≡ join_kind old l → o ≡ Some m → (is_either m || not (is_either old)) ≡ false → JoinsAt ks i l (set ks i m) true
slot_changed ks i l old m o lt r e f c =
    let at : old ≡ slot ks i = at_rest ks i old kinds.Either lt r in
    joins_changed ks i l m lt (ap (λ z. join_kind z l) (sym at) ∙ sym e ∙ f)
    (λ h. differs (is_either m) (subst (λ z. (is_either m || not (is_either z)) ≡ false) (at ∙ sym h) c))

pub slot_kept : (ks : List Kind) (i : ℕ) (l old m : Kind) (o : Option Kind) → i < length ks → old ≡ get_or ks i old → o ≡ join_kind old l → o ≡ Some m → (is_either m || not (is_either old)) ≡ true → JoinsAt ks i l ks false
slot_kept ks i l old m o lt r e f c =
    let at : old ≡ slot ks i = at_rest ks i old kinds.Either lt r in
    let met : join_kind (slot ks i) l ≡ Some m = ap (λ z. join_kind z l) (sym at) ∙ sym e ∙ f in
    joins_kept ks i l m met
    (is_same (slot ks i) m (on_at (join_kind (slot ks i) l) (λ z. Below (slot ks i) z × Below l z) m met (join_kind_on (slot ks i) l)).0 (subst (λ z. (is_either m || not (is_either z)) ≡ true) at c))

pub slot_none : (ks : List Kind) (i : ℕ) (l old : Kind) (o : Option Kind) → i < length ks → old ≡ get_or ks i old → o ≡ join_kind old l → o ≡ None → join_kind (slot ks i) l ≡ None
slot_none ks i l old o lt r e f = ap (λ z. join_kind z l) (sym (at_rest ks i old kinds.Either lt r)) ∙ sym e ∙ f

pub nat_decides : (k i : ℕ) → (k ≡ i) ⊎ (k ≡ i → ⊥)
nat_decides zero zero = inl refl
nat_decides zero (suc i) = inr (λ e. omega (arith, e))
nat_decides (suc k) zero = inr (λ e. omega (arith, e))
nat_decides (suc k) (suc i) = elim (nat_decides k i) [ inl e ↦ inl (ap suc e) | inr g ↦ inr (λ e. g (omega (arith, e))) ]

pub partly_start : (ks ls : List Kind) (Left : ℕ → Type 0) → ((k : ℕ) → k < length ks → (join_kind (slot ks k) (slot ls k) ≡ Some (slot ks k)) ⊎ Left k) → Partly ks ls Left ks false
partly_start ks ls Left f = record {
  long = refl;
  each = λ k lt. elim (f k lt) [ inl e ↦ inl e | inr h ↦ inr (h, refl) ];
  up = belows_refl ks;
  fewer = tt;
  kept = refl;
}

-- the joined slot is there
met_at : (k l m n : Kind) (P : Type 0) → (join_kind k l ≡ Some m) ⊎ (P × (m ≡ k)) → join_kind m l ≡ Some n → join_kind k l ≡ Some n
met_at k l m n P (inl e) h = e ∙ sym (join_again k l m e) ∙ h
met_at k l m n P (inr e) h = ap (λ z. join_kind z l) (sym e.1) ∙ h

fewer_more : (b c : Bool) (x y z : ℕ) → OnTrue b (y < x) → OnTrue c (z < y) → y ≤ x → z ≤ y → OnTrue (b || c) (z < x)
fewer_more true c x y z f g p q = omega (arith, f, q)
fewer_more false true x y z f g p q = omega (arith, g, p)
fewer_more false false x y z f g p q = tt

kept_more : (b c : Bool) (ks ms ns : List Kind) → OnFalse b (ms ≡ ks) → OnFalse c (ns ≡ ms) → OnFalse (b || c) (ns ≡ ks)
kept_more true c ks ms ns f g = tt
kept_more false true ks ms ns f g = tt
kept_more false false ks ms ns f g = g ∙ f

pub partly_more : (ks ls ms ns : List Kind) (Left Next : ℕ → Type 0) (i : ℕ) (b c : Bool) → ((k : ℕ) → Left k → (k ≡ i) ⊎ Next k) → i < length ks → Partly ks ls Left ms b → JoinsAt ms i (slot ls i) ns c → Partly ks ls Next ns (b || c)
partly_more ks ls ms ns Left Next i b c f lt p j =
    let m = slot ns i in
    let below = (on_at (join_kind (slot ms i) (slot ls i)) (λ z. Below (slot ms i) z × Below (slot ls i) z) m j.met (join_kind_on (slot ms i) (slot ls i))).0 in
    let up = subst (Belows ms) (sym j.others) (belows_set ms i m below) in
    record {
      long = ap length j.others ∙ length-set ms i m ∙ p.long;
      each = λ k l. by_place k l (nat_decides k i);
      up = belows_trans ks ms ns p.up up;
      fewer = fewer_more b c (opens ks) (opens ms) (opens ns) p.fewer j.fewer (opens_below ks ms p.up) (opens_below ms ns up);
      kept = kept_more b c ks ms ns p.kept j.kept;
    }
  where
    elsewhere : (k : ℕ) → (k ≡ i → ⊥) → slot ns k ≡ slot ms k
    elsewhere k g = ap (λ z. slot z k) j.others ∙ get_or-set_other ms i k (slot ns i) kinds.Either g

    by_place : (k : ℕ) → k < length ks → (k ≡ i) ⊎ (k ≡ i → ⊥) → (join_kind (slot ks k) (slot ls k) ≡ Some (slot ns k)) ⊎ (Next k × (slot ns k ≡ slot ks k))
    by_place k l (inl e) = inl (subst (λ z. join_kind (slot ks z) (slot ls z) ≡ Some (slot ns z)) (sym e) (met_at (slot ks i) (slot ls i) (slot ms i) (slot ns i) (Left i) (p.each i lt) j.met))
    by_place k l (inr g) = elim (p.each k l) [
      | inl e ↦ inl (e ∙ ap Some (sym (elsewhere k g)))
      | inr h ↦ inr (elim (f k h.0) [ inl e ↦ absurd (g e) | inr n ↦ n ], elsewhere k g ∙ h.1)
    ]

all_joined : (ks ls ms : List Kind) → length ks ≡ length ls → length ms ≡ length ks → ((k : ℕ) → k < length ks → join_kind (slot ks k) (slot ls k) ≡ Some (slot ms k)) → join ks ls ≡ Some ms
all_joined [] [] [] a b f = refl
all_joined (k ∷ ks) (l ∷ ls) (m ∷ ms) a b f =
    let first : join_kind k l ≡ Some m = f 0 (omega arith) in
    ap (λ o. both o (join ks ls)) first ∙ ap (both (Some m)) (all_joined ks ls ms (omega (arith, a)) (omega (arith, b)) (λ j lt. f (suc j) (omega (arith, lt))))
all_joined [] (l ∷ ls) ms a b f = absurd (omega (arith, a))
all_joined (k ∷ ks) [] ms a b f = absurd (omega (arith, a))
all_joined [] [] (m ∷ ms) a b f = absurd (omega (arith, b))
all_joined (k ∷ ks) (l ∷ ls) [] a b f = absurd (omega (arith, b))

both_none : (o : Option Kind) → both o None ≡ None
both_none None = refl
both_none (Some k) = refl

join_fails : (ks ls : List Kind) (i : ℕ) → i < length ks → length ks ≡ length ls → join_kind (slot ks i) (slot ls i) ≡ None → join ks ls ≡ None
join_fails [] ls i lt a e = absurd (omega (arith, lt))
join_fails (k ∷ ks) [] i lt a e = absurd (omega (arith, a))
join_fails (k ∷ ks) (l ∷ ls) zero lt a e = ap (λ o. both o (join ks ls)) e
join_fails (k ∷ ks) (l ∷ ls) (suc i) lt a e = ap (both (join_kind k l)) (join_fails ks ls i (omega (arith, lt)) (omega (arith, a)) e) ∙ both_none (join_kind k l)

pub partly_end : (ks ls ms : List Kind) (Left : ℕ → Type 0) (b : Bool) → length ks ≡ length ls → ((k : ℕ) → k < length ks → Left k → ⊥) → Partly ks ls Left ms b → Joins ks ls ms b
partly_end ks ls ms Left b a f p = record {
  is = all_joined ks ls ms a p.long (λ k lt. elim (p.each k lt) [ inl e ↦ e | inr h ↦ absurd (f k lt h.0) ]);
  fewer = p.fewer;
  kept = p.kept;
}

none_some : (m : Kind) (o : Option Kind) → o ≡ Some m → o ≡ None → ⊥
none_some m o e f = cc

pub partly_none : (ks ls ms : List Kind) (Left : ℕ → Type 0) (i : ℕ) (b : Bool) → length ks ≡ length ls → i < length ks → Partly ks ls Left ms b → join_kind (slot ms i) (slot ls i) ≡ None → join ks ls ≡ None
partly_none ks ls ms Left i b a lt p e = join_fails ks ls i lt a (elim (p.each i lt) [
  | inl h ↦ absurd (none_some (slot ms i) (join_kind (slot ms i) (slot ls i)) (join_again (slot ks i) (slot ls i) (slot ms i) h) e)
  | inr h ↦ ap (λ z. join_kind z (slot ls i)) (sym h.1) ∙ e
])

pub join_short : (ks ls : List Kind) → (length ks ≡ length ls → ⊥) → join ks ls ≡ None
join_short [] [] f = absurd (f refl)
join_short [] (l ∷ ls) f = refl
join_short (k ∷ ks) [] f = refl
join_short (k ∷ ks) (l ∷ ls) f = ap (both (join_kind k l)) (join_short ks ls (λ e. f (ap suc e))) ∙ both_none (join_kind k l)

pub le_cases : (i k : ℕ) → i ≤ k → (k ≡ i) ⊎ (i + 1 ≤ k)
le_cases zero zero h = inl refl
le_cases zero (suc k) h = inr (omega arith)
le_cases (suc i) zero h = absurd (omega (arith, h))
le_cases (suc i) (suc k) h = elim (le_cases i k (omega (arith, h))) [ inl e ↦ inl (ap suc e) | inr l ↦ inr (omega (arith, l)) ]

pub if_none_from : {A : Type 0} → (o : Option A) (P : Type 0) → P → IfNone o P
if_none_from None P h = h
if_none_from (Some x) P h = tt

or_false : (b : Bool) → b ≡ (b || false)
or_false true = refl
or_false false = refl

or_assoc : (b c d : Bool) → ((b || c) || d) ≡ (b || (c || d))
or_assoc true c d = refl
or_assoc false c d = refl

pub itself : (k : Kind) → join_kind k k ≡ Some k
itself kinds.Value = refl
itself kinds.Cause = refl
itself kinds.Either = refl
itself kinds.Iter1 = refl
itself kinds.Iter2 = refl
itself kinds.Iter3 = refl
itself kinds.Iter4 = refl
itself kinds.Null = refl
itself kinds.Method = refl

-- one run of slots after another
pub run_none : (ks ls ms : List Kind) (Left : ℕ → Type 0) (b : Bool) → Partly ks ls Left ms b → Partly ks ls Left ms (b || false)
run_none ks ls ms Left b p = subst (Partly ks ls Left ms) (or_false b) p

pub run_more : (ks ls ms : List Kind) (Left : ℕ → Type 0) (b c d e : Bool) → e ≡ (c || d) → Partly ks ls Left ms ((b || c) || d) → Partly ks ls Left ms (b || e)
run_more ks ls ms Left b c d e h p = subst (Partly ks ls Left ms) (or_assoc b c d ∙ ap (λ z. b || z) (sym h)) p

pub le_decides : (n k : ℕ) → (n ≤ k) ⊎ (k < n)
le_decides zero k = inl (omega arith)
le_decides (suc n) zero = inr (omega arith)
le_decides (suc n) (suc k) = elim (le_decides n k) [ inl h ↦ inl (omega (arith, h)) | inr h ↦ inr (omega (arith, h)) ]

pub run_skip : (ks ls ms : List Kind) (from to : ℕ) (b : Bool) → ((k : ℕ) → from ≤ k → k < to → slot ms k ≡ slot ls k) → Partly ks ls (λ k. from ≤ k) ms b → Partly ks ls (λ k. to ≤ k) ms b
run_skip ks ls ms from to b f p = record {
  long = p.long;
  each = λ k lt. elim (p.each k lt) [
    | inl e ↦ inl e
    | inr h ↦ elim (le_decides to k) [
      | inl le ↦ inr (le, h.1)
      | inr less ↦ inl (ap (join_kind (slot ks k)) (sym (f k h.0 less) ∙ h.1) ∙ itself (slot ks k) ∙ ap Some (sym h.1))
    ]
  ];
  up = p.up;
  fewer = p.fewer;
  kept = p.kept;
}

-- a run of slots in its place
get_run : (xs : List Kind) (a n k : ℕ) (d : Kind) → a ≤ k → k < a + n → get_or (take n (drop a xs)) (k - a) d ≡ get_or xs k d
get_run xs a n k d le lt = taken n (drop a xs) (k - a) (omega (arith, le, lt)) ∙ get_drop a (k - a) xs d ∙ ap (λ j. get_or xs j d) (let q : a + (k - a) ≡ k = omega arith in q)
  where
    taken : (n : ℕ) (ys : List Kind) (i : ℕ) → i < n → get_or (take n ys) i d ≡ get_or ys i d
    taken zero ys i h = absurd (omega (arith, h))
    taken (suc n) [] i h = refl
    taken (suc n) (y ∷ ys) zero h = refl
    taken (suc n) (y ∷ ys) (suc i) h = taken n ys i (omega (arith, h))

pub runs_same : (ms dl found bel : List Kind) (n : ℕ) (gs : List Give) (tk from to given : ℕ) → dl ≡ ms → bel ≡ drop tk found → given ≡ length (replicate n (New kinds.Value) ++ gs) → length (replicate n (New kinds.Value) ++ gs) ≤ from → from ≤ to → to ≤ length ms → ((k : ℕ) → k < length (take (to - from) (drop from dl)) → slot (take (to - from) (drop from dl)) k ≡ slot (take (to - given - (from - given)) (drop (from - given) bel)) k) → (k : ℕ) → from ≤ k → k < to → slot ms k ≡ slot (after (replicate n (New kinds.Value) ++ gs) tk found) k
runs_same ms dl found bel n gs tk from to given d b g a le most f k low high =
    let many = gives_size n gs in
    let size : length (take (to - from) (drop from dl)) ≡ to - from = let p = length-take (to - from) (drop from dl) in let q = length-drop from dl in let r = ap length d in omega (arith, p, q, r, most, le) in
    sym (get_run ms from (to - from) k kinds.Either low (omega (arith, high, low)))
    ∙ ap (λ z. slot (take (to - from) (drop from z)) (k - from)) (sym d)
    ∙ f (k - from) (omega (arith, size, low, high))
    ∙ ap (slot (take (to - given - (from - given)) (drop (from - given) bel))) (let q : k - from ≡ (k - given) - (from - given) = omega (arith, a, g, low) in q)
    ∙ get_run bel (from - given) (to - given - (from - given)) (k - given) kinds.Either (omega (arith, a, g, low)) (omega (arith, a, g, low, high))
    ∙ ap (λ z. slot z (k - given)) b
    ∙ ap (slot (drop tk found)) (let q : k - given ≡ k - (n + length gs) = omega (arith, g, many) in q)
    ∙ sym (slot_rest n gs tk found k kinds.Either (omega (arith, a, many, low)))
