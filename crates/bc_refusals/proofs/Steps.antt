-- Lists of edges, one by one.
use Rattle.std.specs.Bool.{OnTrue}
use Rattle.std.specs.Prelude.{not, ◌&&◌, IfSome, Option, Some}
use Rattle.std.proofs.lemmas.Bool.{and_from, and_parts, cases_order, false≢true, true≢false}
use Rattle.std.proofs.Common.{◌≡◌, ℕ, zero, suc, ◌+◌, ◌<◌, ◌≤◌, ◌⊎◌, inl, inr, Bool, true, false, List, [], ◌∷◌, length, map, drop, get_or, set, refl, sym, ap, subst, ◌∙◌, arith}
use Rattle.std.proofs.lemmas.List.{drop_more}
use Rattle.bc_flow.specs.declared.edges.Edge.{Edge as RustEdge}
use Rattle.bc_flow.specs.bc_shapes.Shape.{At, Under}
use Rattle.bc_flow.specs.Edges.{Edge}
use Rattle.bc_flow.specs.Verified.{Assigned, Table, agree, agrees, others}
use Rattle.bc_flow.specs.Views.{edge_of_rust}
use Rattle.bc_refusals.specs.Stages.{AnyApart, AnyClash, Apart, ApartFrom, BeginAll, Begins, Brings, first, more, Clash, Clashes, IsNext, IsSet, Lead, LeadAll, Opens, come, opened}
use Rattle.bc_refusals.specs.Views.{Passed}
use Rattle.bc_refusals.proofs.Stages.{set_cases}

pub lead_step : (a : Assigned) (came : List Bool) (es : List RustEdge) (k : ℕ) (f : RustEdge) → k < length es → Lead a came (edge_of_rust (get_or es k f)) → LeadAll a came (map edge_of_rust (drop (k + 1) es)) → LeadAll a came (map edge_of_rust (drop k es))
lead_step a came es k f lt l rest = subst (λ z. LeadAll a came (map edge_of_rust z)) (sym (drop_more es k f lt)) (l, rest)

pub lead_end : (a : Assigned) (came : List Bool) (es : List RustEdge) (k : ℕ) → length es ≤ k → LeadAll a came (map edge_of_rust (drop k es))
lead_end a came [] zero le = tt
lead_end a came [] (suc k) le = tt
lead_end a came (e ∷ es) zero le = absurd (omega (arith, le))
lead_end a came (e ∷ es) (suc k) le = lead_end a came es k (omega (arith, le))

pub begin_step : (a : Assigned) (came : List Bool) (all : List Edge) (es : List RustEdge) (k : ℕ) (f : RustEdge) → k < length es → IsSet came (get_or es k f).to ⊎ Begins a (get_or es k f).to all → BeginAll a came all (map edge_of_rust (drop (k + 1) es)) → BeginAll a came all (map edge_of_rust (drop k es))
begin_step a came all es k f lt l rest = subst (λ z. BeginAll a came all (map edge_of_rust z)) (sym (drop_more es k f lt)) (l, rest)

pub begin_end : (a : Assigned) (came : List Bool) (all : List Edge) (es : List RustEdge) (k : ℕ) → length es ≤ k → BeginAll a came all (map edge_of_rust (drop k es))
begin_end a came all [] zero le = tt
begin_end a came all [] (suc k) le = tt
begin_end a came all (e ∷ es) zero le = absurd (omega (arith, le))
begin_end a came all (e ∷ es) (suc k) le = begin_end a came all es k (omega (arith, le))

-- one of the edges brings something first
pub brings_at : (p : ℕ) (x : At) (es : List RustEdge) (k : ℕ) (f : RustEdge) → k < length es → (get_or es k f).to ≡ p → Under (opened x) (opened (edge_of_rust (get_or es k f)).at) → Brings p x (map edge_of_rust es)
brings_at p x [] k f lt t u = absurd (omega (arith, lt))
brings_at p x (e ∷ es) zero f lt t u = first t u
brings_at p x (e ∷ es) (suc k) f lt t u = more (brings_at p x es k f (omega (arith, lt)) t u)

pub clash_at : (a : Assigned) (came : List Bool) (es : List RustEdge) (k : ℕ) (f : RustEdge) → k < length es → Clash a came (edge_of_rust (get_or es k f)) → AnyClash a came (map edge_of_rust es)
clash_at a came [] k f lt c = absurd (omega (arith, lt))
clash_at a came (e ∷ es) zero f lt c = inl c
clash_at a came (e ∷ es) (suc k) f lt c = inr (clash_at a came es k f (omega (arith, lt)) c)

pub apart_at : (e : Edge) (es : List RustEdge) (k : ℕ) (f : RustEdge) → k < length es → Apart e (edge_of_rust (get_or es k f)) → ApartFrom e (map edge_of_rust es)
apart_at e [] k f lt c = absurd (omega (arith, lt))
apart_at e (d ∷ es) zero f lt c = inl c
apart_at e (d ∷ es) (suc k) f lt c = inr (apart_at e es k f (omega (arith, lt)) c)

-- an edge is apart from one of those behind it
parts_on : (es : List RustEdge) (k : ℕ) (f : RustEdge) → k < length es → ApartFrom (edge_of_rust (get_or es k f)) (map edge_of_rust (drop (suc k) es)) → AnyApart (map edge_of_rust es)
parts_on [] k f lt c = absurd (omega (arith, lt))
parts_on (e ∷ es) zero f lt c = inl c
parts_on (e ∷ es) (suc k) f lt c = inr (parts_on es k f (omega (arith, lt)) c)

pub parts_at : (es : List RustEdge) (k : ℕ) (f : RustEdge) (bs : List RustEdge) → k < length es → bs ≡ drop (k + 1) es → ApartFrom (edge_of_rust (get_or es k f)) (map edge_of_rust bs) → AnyApart (map edge_of_rust es)
parts_at es k f bs lt h c = let n : k + 1 ≡ suc k = omega arith in parts_on es k f lt (subst (λ z. ApartFrom (edge_of_rust (get_or es k f)) (map edge_of_rust z)) (h ∙ ap (λ m. drop m es) n) c)

pub apart_clash : (a : Assigned) (came : List Bool) (es : List Edge) (yes : Bool) → OnTrue yes (AnyApart es) → OnTrue yes (Clashes a came es)
apart_clash a came es true k = inr k
apart_clash a came es false k = tt

pub come_step : (came : List Bool) (es : List RustEdge) (k : ℕ) (f : RustEdge) → k < length es → come came (map edge_of_rust (drop k es)) ≡ come (set came (get_or es k f).to true) (map edge_of_rust (drop (k + 1) es))
come_step came es k f lt = ap (λ z. come came (map edge_of_rust z)) (drop_more es k f lt)

pub come_end : (came : List Bool) (es : List RustEdge) (k : ℕ) → length es ≤ k → come came (map edge_of_rust (drop k es)) ≡ came
come_end came [] zero le = refl
come_end came [] (suc k) le = refl
come_end came (e ∷ es) zero le = absurd (omega (arith, le))
come_end came (e ∷ es) (suc k) le = come_end came es k (omega (arith, le))

-- a position in front of all where something came anew
pub old_on : (flags : List Bool) (p q n m : ℕ) → (get_or flags p false ≡ false → m ≤ p) → q < m → IsSet (set flags p true) q → IsSet flags q
old_on flags p q n m f lt s = by (set_cases flags p q s)
  where
    by_flag : (b : Bool) → get_or flags p false ≡ b → q ≡ p → IsSet flags q
    by_flag true h e = subst (IsSet flags) (sym e) h
    by_flag false h e = let le = f h in absurd (omega (arith, le, lt, e))

    by : (q ≡ p) ⊎ IsSet flags q → IsSet flags q
    by (inl e) = by_flag (get_or flags p false) refl e
    by (inr h) = h

pub agree_more : (t : Table) (es : List RustEdge) (k : ℕ) (f : RustEdge) → k < length es → agree t (map edge_of_rust (drop k es)) ≡ (agrees t (get_or es k f).to (edge_of_rust (get_or es k f)).at.entries && others (edge_of_rust (get_or es k f)) (map edge_of_rust (drop (k + 1) es)) && agree t (map edge_of_rust (drop (k + 1) es)))
agree_more t es k f lt = ap (λ z. agree t (map edge_of_rust z)) (drop_more es k f lt)

pub agree_end : (t : Table) (es : List RustEdge) (k : ℕ) → length es ≤ k → agree t (map edge_of_rust (drop k es)) ≡ true
agree_end t [] zero le = refl
agree_end t [] (suc k) le = refl
agree_end t (e ∷ es) zero le = absurd (omega (arith, le))
agree_end t (e ∷ es) (suc k) le = agree_end t es k (omega (arith, le))

pub three_first : (a b c : Bool) → a ≡ false → (a && b && c) ≡ false
three_first false b c e = refl
three_first true b c e = absurd (true≢false e)

pub two_last : (a b c : Bool) → a ≡ true → b ≡ false → (a && b && c) ≡ false
two_last true false c e f = refl
two_last true true c e f = absurd (true≢false f)
two_last false b c e f = absurd (false≢true e)

pub three_last : (a b c : Bool) → a ≡ true → b ≡ true → (a && b && c) ≡ c
three_last true true c e f = refl
three_last true false c e f = absurd (false≢true f)
three_last false b c e f = absurd (false≢true e)

-- The next position that waits.

pub waits_are : (came gone : List Bool) (p : ℕ) → (get_or came p false && not (get_or gone p false)) ≡ true → IsSet came p × (get_or gone p false ≡ false)
waits_are came gone p e = let parts = and_parts (get_or came p false) (not (get_or gone p false)) e in (parts.0, was_false (get_or gone p false) parts.1)
  where
    was_false : (b : Bool) → not b ≡ true → b ≡ false
    was_false false h = refl
    was_false true h = absurd (false≢true h)

pub passed_more : (came gone : List Bool) (p : ℕ) → Passed came gone p → (get_or came p false && not (get_or gone p false)) ≡ false → Passed came gone (p + 1)
passed_more came gone p h e q lt c g = by (cases_order q p)
  where
    here : q ≡ p → ⊥
    here t =
        let c2 : get_or came p false ≡ true = sym (ap (λ n. get_or came n false) t) ∙ c in
        let g2 : get_or gone p false ≡ false = sym (ap (λ n. get_or gone n false) t) ∙ g in
        true≢false (sym (and_from (get_or came p false) (not (get_or gone p false)) c2 (ap not g2)) ∙ e)

    by : (q ≡ p) ⊎ (q < p ⊎ p < q) → ⊥
    by (inl t) = here t
    by (inr (inl a)) = h q a c g
    by (inr (inr a)) = absurd (omega (arith, a, lt))

pub next_is : (came gone : List Bool) (p : ℕ) → Passed came gone p → (get_or came p false && not (get_or gone p false)) ≡ true → IsNext came gone p
next_is came gone p h e = record { came_there = (waits_are came gone p e).0; waits = (waits_are came gone p e).1; least = λ q c g. by q c g (cases_order q p) }
  where
    by : (q : ℕ) → IsSet came q → get_or gone q false ≡ false → (q ≡ p) ⊎ (q < p ⊎ p < q) → p < q ⊎ (p ≡ q)
    by q c g (inl t) = inr (sym t)
    by q c g (inr (inl a)) = absurd (h q a c g)
    by q c g (inr (inr a)) = inl a

pub some_at : {A : Type 0} → (o : Option A) (x : A) (P : A → Type 0) → o ≡ Some x → IfSome o P → P x
some_at o x P e h = subst (λ z. IfSome z P) e h

-- what an edge that was found brings first
pub begins_at : (a : Assigned) (p : ℕ) (es : List RustEdge) (k : ℕ) (f : RustEdge) → k < length es → (get_or es k f).to ≡ p → ((x : At) × (a (get_or es k f).to ≡ Some x) × Opens (edge_of_rust (get_or es k f)).at x) → Begins a p (map edge_of_rust es)
begins_at a p es k f lt t b = (b.0, sym (ap a t) ∙ b.1, brings_at p b.0 es k f lt t b.2)

pub others_below : (e : Edge) (es bs : List RustEdge) (r b : Bool) → bs ≡ es → r ≡ others e (map edge_of_rust bs) → r ≡ b → others e (map edge_of_rust es) ≡ b
others_below e es bs r b h o t = ap (λ z. others e (map edge_of_rust z)) (sym h) ∙ sym o ∙ t
