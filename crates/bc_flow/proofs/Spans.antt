-- What was there at the last visits, and what still holds.
use Rattle.std.proofs.Common.{◌≡◌, ◌⊎◌, ℕ, zero, suc, ◌+◌, ◌-◌, ◌<◌, ◌≤◌, Bool, true, false, ◌&&◌, ◌||◌, not, List, [], ◌∷◌, length, map, get_or, set, drop, Option, Some, None, refl, sym, ap, ◌∙◌, subst, arith, inl, inr, if◌then◌else◌}
use Rattle.std.specs.Bool.{OnTrue}
use Rattle.std.specs.Prelude.{Result, Ok, Err, IfOk, OnOk, slice_get, nat_eq}
use Rattle.std.proofs.lemmas.Bool.{and_parts, eqb-true, eq-eqb}
use Rattle.std.proofs.lemmas.List.{drop_more}
use Rattle.bc_shapes.specs.declared.kinds.Kind.{Kind}
use Rattle.bc_shapes.specs.declared.kinds.Kind.TheVariants as kinds
use Rattle.bc_shapes.specs.declared.shape.Entry.{Entry}
use Rattle.bc_shapes.specs.declared.span.Span.{Span}
use Rattle.bc_shapes.specs.Shape.{At, Below, same}
use Rattle.bc_shapes.specs.Spans.{In, SameOutside, BelowOutside, FitsBut}
use Rattle.bc_shapes.proofs.Joins.{On, on_at, below_trans, belows_get, belows-length, under_refl}
use Rattle.bc_shapes.proofs.InPlace.{slot, nat_decides}
use Rattle.bc_shapes.proofs.Spans.{same_refl, same_trans, same_cons, same_drop, same_after}
use Rattle.bc_flow.specs.declared.walk.State.{State}
use Rattle.bc_flow.specs.Action.{Action}
use Rattle.bc_flow.specs.Code.{Code}
use Rattle.bc_flow.specs.Edges.{Edge, Way, How, Next, There, Run, edge_of, edges, ways, takes, gives, gives_there, change, left, base, pushed, slots_of, holds, finds, room, has_room, stays}
use Rattle.bc_flow.specs.Verified.{Assigned, Leads, Each, none, also, Fine, Grows, Cell, Table, seen, at, put, meet, done_at, agree, others, agrees, IsPending, visit}
use Rattle.bc_flow.specs.Spans.{Keeps, Lies, Outside, EachOutside, Changed, Since, Remembers, updated, IsClear, StillHolds}
use Rattle.bc_flow.specs.declared.code.Rule.{Rule}
use Rattle.bc_flow.specs.declared.edges.Edge.{Edge as RustEdge}
use Rattle.bc_flow.specs.Views.{cell_of, edge_of_rust, visit_of}
use Rattle.bc_flow.proofs.Decides.{at_visit, fine_grows, visited_grows}
use Rattle.bc_flow.proofs.Puts.{on_map, grows_refl, Puts, put_on, some_is}
use Rattle.bc_flow.proofs.Visits.{agree_below, done-at, pending_is, Visited, visit_on}
use Rattle.bc_flow.proofs.Tables.{with_slots}

pub keeps_slots : (s : Span) (y : At) (l : List Kind) → SameOutside s y.slots l → Keeps s (Some y) (Some (with_slots y.entries l))
keeps_slots s y l h x e = record {
  now = with_slots y.entries l;
  is = refl;
  slots = subst (λ z. SameOutside s z.slots l) (some_is y x e) h;
  entries = ap (λ z. z.entries) (sym (some_is y x e));
}

pub keeps_none : (s : Span) (p : Option At) → Keeps s None p
keeps_none s p x e = cc

-- Tables.

pub seen_here : (cells : List State) (n : ℕ) (s : State) → n < length cells → s ≡ get_or cells n s → at (map cell_of cells) n ≡ seen (cell_of s)
seen_here [] n s lt e = absurd (omega (arith, lt))
seen_here (c ∷ cells) zero s lt e = ap (λ z. seen (cell_of z)) (sym e)
seen_here (c ∷ cells) (suc n) s lt e = seen_here cells n s (omega (arith, lt)) e

pub seen_set : (cells : List State) (n : ℕ) (c : State) → n < length cells → at (map cell_of (set cells n c)) n ≡ seen (cell_of c)
seen_set [] n c lt = absurd (omega (arith, lt))
seen_set (d ∷ cells) zero c lt = refl
seen_set (d ∷ cells) (suc n) c lt = seen_set cells n c (omega (arith, lt))

seen_in : (t : Table) (p : ℕ) (x : At) → at t p ≡ Some x → p < length t
seen_in [] p x e = cc
seen_in (c ∷ t) zero x e = omega arith
seen_in (c ∷ t) (suc p) x e = let lt = seen_in t p x e in omega (arith, lt)

put_others : (t : Table) (n : ℕ) (x : At) → On (put t n x) (λ u. (q : ℕ) → (q ≡ n → ⊥) → at u q ≡ at t q)
put_others [] n x = tt
put_others (c ∷ t) zero x = on_map (meet c x) (λ d. d ∷ t) (λ d. Unit {0}) (λ u. (q : ℕ) → (q ≡ 0 → ⊥) → at u q ≡ at (c ∷ t) q) (λ d m q g. elsewhere d q g) (any (meet c x))
  where
    any : (o : Option Cell) → On o (λ d. Unit {0})
    any None = tt
    any (Some d) = tt

    elsewhere : (d : Cell) (q : ℕ) → (q ≡ 0 → ⊥) → at (d ∷ t) q ≡ at (c ∷ t) q
    elsewhere d zero g = absurd (g refl)
    elsewhere d (suc q) g = refl
put_others (c ∷ t) (suc n) x = on_map (put t n x) (λ u. c ∷ u) (λ u. (q : ℕ) → (q ≡ n → ⊥) → at u q ≡ at t q) (λ u. (q : ℕ) → (q ≡ suc n → ⊥) → at u q ≡ at (c ∷ t) q) (λ u m q g. elsewhere u m q g) (put_others t n x)
  where
    elsewhere : (u : Table) → ((q : ℕ) → (q ≡ n → ⊥) → at u q ≡ at t q) → (q : ℕ) → (q ≡ suc n → ⊥) → at (c ∷ u) q ≡ at (c ∷ t) q
    elsewhere u m zero g = refl
    elsewhere u m (suc q) g = m q (λ e. g (ap suc e))

-- what is said of a position that was widened
abbrev pub Widened : List (Option Span) → List (Option Span) → ℕ → Span → Type 0
Widened old new p span = (s : Span) → slice_get new p ≡ Some (Some s) → (r : Span) × (slice_get old p ≡ Some (Some r)) × ((n : ℕ) → In r n → In s n) × ((n : ℕ) → In span n → In s n)

abbrev pub Elsewhere : List (Option Span) → List (Option Span) → ℕ → Type 0
Elsewhere old new p = (q : ℕ) → (q ≡ p → ⊥) → slice_get new q ≡ slice_get old q

changed_more : (old : Assigned) (a b : Assigned) (p : ℕ) (r s t : Span) → ((n : ℕ) → In r n → In t n) → ((n : ℕ) → In s n → In t n) → Keeps s (a p) (b p) → Changed old a p r → Changed old b p t
changed_more old a b p r s t f g k c =
    let d = c.now in
    let e = k d.now d.is in
    record {
      before = c.before;
      was = c.was;
      now = record { now = e.now; is = e.is; slots = same_trans r s t c.before.slots d.now.slots e.now.slots f g d.slots e.slots; entries = d.entries ∙ e.entries };
    }

pub changed_at : (old a b : Assigned) (p : ℕ) (s : Span) → b p ≡ a p → Changed old a p s → Changed old b p s
changed_at old a b p s e c =
    let d = c.now in
    record { before = c.before; was = c.was; now = record { now = d.now; is = e ∙ d.is; slots = d.slots; entries = d.entries } }

-- something arrived
pub since_put : (old : Assigned) (t u : Table) (n : ℕ) (x : At) (span : Span) (ch new : List (Option Span)) → Some u ≡ put t n x → Keeps span (at t n) (at u n) → Widened ch new n span → Elsewhere ch new n → Since old (at t) ch → Since old (at u) new
since_put old t u n x span ch new e k w o h = record { each = λ q s is. by_place q s is (nat_decides q n) }
  where
    there : (q : ℕ) → (q ≡ n → ⊥) → at u q ≡ at t q
    there = on_at (put t n x) (λ v. (q : ℕ) → (q ≡ n → ⊥) → at v q ≡ at t q) u (sym e) (put_others t n x)

    by_place : (q : ℕ) (s : Span) → slice_get new q ≡ Some (Some s) → (q ≡ n) ⊎ (q ≡ n → ⊥) → Changed old (at u) q s
    by_place q s is (inl g) =
        let v = w s (subst (λ z. slice_get new z ≡ Some (Some s)) g is) in
        subst (λ z. Changed old (at u) z s) (sym g) (changed_more old (at t) (at u) n v.0 span s v.2 v.3 k (h.each n v.0 v.1))
    by_place q s is (inr g) = changed_at old (at t) (at u) q s (there q g) (h.each q s (sym (o q g) ∙ is))

pub updated_here : (a : Assigned) (p : ℕ) (x : At) → updated a p x p ≡ Some x
updated_here a p x = ap (λ b. if b then Some x else a p) (eq-eqb p p refl)

pub updated_there : (a : Assigned) (p : ℕ) (x : At) (q : ℕ) → (q ≡ p → ⊥) → updated a p x q ≡ a q
updated_there a p x q g = ap (λ b. if b then Some x else a q) (differ (nat_eq q p) refl)
  where
    differ : (b : Bool) → nat_eq q p ≡ b → nat_eq q p ≡ false
    differ true e = absurd (g (eqb-true q p e))
    differ false e = e

-- the position is visited
pub since_done : (old : Assigned) (t : Table) (p : ℕ) (x : At) (ch new : List (Option Span)) → IsPending t p x → Elsewhere ch new p → Since old (at t) ch → Since (updated old p x) (at (done_at t p x)) new
since_done old t p x ch new w o h = record { each = λ q s is. by_place q s is (nat_decides q p) }
  where
    by_place : (q : ℕ) (s : Span) → slice_get new q ≡ Some (Some s) → (q ≡ p) ⊎ (q ≡ p → ⊥) → Changed (updated old p x) (at (done_at t p x)) q s
    by_place q s is (inl g) = subst (λ z. Changed (updated old p x) (at (done_at t p x)) z s) (sym g) (record {
      before = x;
      was = updated_here old p x;
      now = record { now = x; is = done-at t p x w p ∙ pending_is t p x w; slots = same_refl s x.slots; entries = refl };
    })
    by_place q s is (inr g) =
        let c = changed_at old (at t) (at (done_at t p x)) q s (done-at t p x w q) (h.each q s (sym (o q g) ∙ is)) in
        record { before = c.before; was = updated_there old p x q g ∙ c.was; now = c.now }

-- What arrives still lies below.

lies_grows : (s : Span) (x : At) (a b : Assigned) (n : ℕ) → Grows a b → Lies s x (a n) → Lies s x (b n)
lies_grows s x a b n g l =
    let m = g.each n l.there l.is in
    let long = belows-length l.there.slots m.at.slots m.under.slots in
    record {
      there = m.at;
      is = m.is;
      long = l.long ∙ long;
      below = λ k lt. elim (l.below k (omega (arith, lt, long))) [
        | inl h ↦ inl (below_trans (slot x.slots k) (slot l.there.slots k) (slot m.at.slots k) h (belows_get k l.there.slots m.at.slots m.under.slots))
        | inr h ↦ inr (subst (λ z. In s (z - suc k)) long h)
      ];
    }

outside_grows : (o : Option Span) (x : At) (a b : Assigned) (n : ℕ) → Grows a b → Outside o x (a n) → Outside o x (b n)
outside_grows None x a b n g h = tt
outside_grows (Some s) x a b n g h = lies_grows s x a b n g h

pub each_outside : (o : Option Span) (a b : Assigned) (es : List Edge) → Grows a b → EachOutside o a es → EachOutside o b es
each_outside o a b [] g h = tt
each_outside o a b (e ∷ es) g h = (outside_grows o e.at a b e.to g h.0, each_outside o a b es g h.1)

pub grows_done : (t : Table) (p : ℕ) (x : At) → IsPending t p x → Grows (at t) (at (done_at t p x))
grows_done t p x w = record { each = λ q y e. record { at = y; is = done-at t p x w q ∙ e; under = under_refl y } }

-- a whole shape that arrives lies below what is there
pub below_lies : (o : Option Span) (x : At) (y : At) → Outside o x (Some y) → BelowOutside o x.slots y.slots
below_lies None x y h = λ k lt. inr tt
below_lies (Some s) x y h = subst (λ z. BelowOutside (Some s) x.slots z.slots) (sym (some_is y h.there h.is)) h.below

-- A visit of a position that was visited.

same_pushed : (s : Span) (last : Bool) (ks ls : List Kind) → SameOutside s ks ls → SameOutside s (pushed last ks) (pushed last ls)
same_pushed s true ks ls h = same_cons s kinds.Cause kinds.Cause ks ls refl h
same_pushed s false ks ls h = same_cons s kinds.Either kinds.Either ks ls refl h

module _ (s : Span) (i : Action) (es : List Entry) (ks ls : List Kind) (h : SameOutside s ks ls) where
  abbrev x : At
  x = with_slots es ks

  abbrev y : At
  y = with_slots es ls

  same_base : SameOutside s (base i x) (base i y)
  unfolding base
  same_base = subst (λ n. SameOutside s (base i x) (drop (n - left (change i) es n) ls)) (sym h.long) (same_drop s (length ks - left (change i) es (length ks)) ks ls h)

  asked_before : finds i x ≡ true → FitsBut s (takes i) (base i y)
  unfolding finds
  asked_before f = (base i x, same_base, (and_parts _ _ f).0)

  same_slots : IsClear i (length (base i y)) s → (how : How) → SameOutside s (slots_of i x how) (slots_of i y how)
  unfolding slots_of
  same_slots c Next = same_after s (gives i) (length (takes i)) (base i x) (base i y) same_base c.next_above
  same_slots c There = same_after s (gives_there i) (length (takes i)) (base i x) (base i y) same_base c.there_above
  same_slots c (Run n last) = same_pushed s last (drop (length ks - n) ks) (drop (length ls - n) ls) (subst (λ z. SameOutside s (drop (length ks - n) ks) (drop (z - n) ls)) (sym h.long) (same_drop s (length ks - n) ks ls h))

  same_room : (code : Code) → IsClear i (length (base i y)) s → room code i x ≡ room code i y
  unfolding room
  same_room code c =
      ap (λ n. has_room code.locals code.n_state n (length (slots_of i x Next)) (length (slots_of i x There))) (sym h.long)
      ∙ ap (λ n. has_room code.locals code.n_state (length ls) n (length (slots_of i x There))) (sym (same_slots c Next).long)
      ∙ ap (λ n. has_room code.locals code.n_state (length ls) (length (slots_of i y Next)) n) (sym (same_slots c There).long)

  same_others : (w : Way) (ws : List Way) → others (edge_of i x w) (map (edge_of i x) ws) ≡ others (edge_of i y w) (map (edge_of i y) ws)
  same_others w [] = refl
  same_others w (v ∷ ws) = ap (λ b. (not (nat_eq w.to v.to) || Rattle.bc_shapes.specs.Shape.same_entries w.entries v.entries) && b) (same_others w ws)

  same_agree : (t : Table) (ws : List Way) → agree t (map (edge_of i x) ws) ≡ agree t (map (edge_of i y) ws)
  same_agree t [] = refl
  same_agree t (w ∷ ws) =
      ap (λ b. agrees t w.to w.entries && b && agree t (map (edge_of i x) ws)) (same_others w ws)
      ∙ ap (λ b. agrees t w.to w.entries && others (edge_of i y w) (map (edge_of i y) ws) && b) (same_agree t ws)

  lies : (a : Assigned) (w : Way) → IsClear i (length (base i y)) s → Leads a (edge_of i x w) → Lies s (edge_of i y w).at (a w.to)
  lies a w c l =
      let m = same_slots c w.how in
      let long = belows-length (slots_of i x w.how) l.at.slots l.under.slots in
      record {
        there = l.at;
        is = l.is;
        long = m.long ∙ long;
        below = λ k lt. elim (m.each k (omega (arith, lt, long))) [
          | inl e ↦ inl (subst (λ z. Below z (slot l.at.slots k)) (sym e) (belows_get k (slots_of i x w.how) l.at.slots l.under.slots))
          | inr q ↦ inr (subst (λ z. In s (z - suc k)) long q)
        ];
      }

  each_lies : (a : Assigned) (ws : List Way) → IsClear i (length (base i y)) s → Each a (map (edge_of i x) ws) → EachOutside (Some s) a (map (edge_of i y) ws)
  each_lies a [] c none = tt
  each_lies a (w ∷ ws) c (also l r) = (lies a w c l, each_lies a ws c r)

recalled_with : (code : Code) (t : Table) (p : ℕ) (es : List Entry) (ks ls : List Kind) (i : Action) (s : Span) → Fine code (at t) p (with_slots es ks) → slice_get code.actions p ≡ Some i → SameOutside s ks ls → IsClear i (length (base i (with_slots es ls))) s → StillHolds code t p (with_slots es ls) i s
recalled_with code t p es ks ls i s f is h c =
    let e : f.action ≡ i = some_is f.action i (sym f.is ∙ is) in
    let along = subst (λ z. Each (at t) (edges code z p (with_slots es ks))) e f.along in
    let ws = ways code i p (length ls) es in
    let each = subst (λ n. Each (at t) (map (edge_of i (with_slots es ks)) (ways code i p n es))) (sym h.long) along in
    record {
      handlers = ap (λ n. holds code i p n es) h.long ∙ subst (λ z. holds code z p (length ks) es ≡ true) e f.handlers;
      meets = sym (same_agree s i es ks ls h t ws) ∙ agree_below (at t) (length t) (seen_in t) t refl (grows_refl (at t)) (map (edge_of i (with_slots es ks)) ws) each;
      asked = asked_before s i es ks ls h (subst (λ z. finds z (with_slots es ks) ≡ true) e f.height);
      state = sym (same_room s i es ks ls h code c) ∙ subst (λ z. room code z (with_slots es ks) ≡ true) e f.state;
      falls = subst (λ z. stays code z p ≡ true) e f.falls;
      outside = each_lies s i es ks ls h (at t) ws c each;
    }

recalled : (code : Code) (t : Table) (p : ℕ) (x y : At) (i : Action) (s : Span) → Fine code (at t) p y → slice_get code.actions p ≡ Some i → SameOutside s y.slots x.slots → y.entries ≡ x.entries → IsClear i (length (base i x)) s → StillHolds code t p x i s
recalled code t p x y i s f is h e c = recalled_with code t p x.entries y.slots x.slots i s (subst (λ z. Fine code (at t) p (with_slots z y.slots)) e f) is h c

-- What a walk keeps of its visits.

pub on_true_map : (b : Bool) (P Q : Type 0) → (P → Q) → OnTrue b P → OnTrue b Q
on_true_map true P Q f h = f h
on_true_map false P Q f h = tt

pub outside_first : (o : Option Span) (a : Assigned) (es : List RustEdge) (k : ℕ) (f : RustEdge) → k < length es → EachOutside o a (map edge_of_rust (drop k es)) → Outside o (edge_of_rust (get_or es k f)).at (a (get_or es k f).to)
outside_first o a es k f lt h = (subst (λ z. EachOutside o a (map edge_of_rust z)) (drop_more es k f lt) h).0

outside_end : (o : Option Span) (a : Assigned) (n : ℕ) → EachOutside o a (map edge_of_rust (drop n []))
outside_end o a zero = tt
outside_end o a (suc n) = tt

pub outside_rest : (o : Option Span) (a : Assigned) (es : List RustEdge) (k : ℕ) → EachOutside o a (map edge_of_rust (drop k es)) → EachOutside o a (map edge_of_rust (drop (k + 1) es))
outside_rest o a [] k h = outside_end o a (k + 1)
outside_rest o a (e ∷ es) zero h = h.1
outside_rest o a (e ∷ es) (suc k) h = subst (λ n. EachOutside o a (map edge_of_rust (drop n (e ∷ es)))) (let q : suc (k + 1) ≡ suc k + 1 = omega arith in q) (outside_rest o a es k h)

pub put_grows : (t u : Table) (n : ℕ) (x : At) → Some u ≡ put t n x → Grows (at t) (at u)
put_grows t u n x e = let m : Puts t n x u = on_at (put t n x) (Puts t n x) u (sym e) (put_on t n x) in m.grows

pub remembers_none : (code : Code) (t : Table) (ch : List (Option Span)) → ((p : ℕ) (s : Span) → slice_get ch p ≡ Some (Some s) → ⊥) → (old : Assigned) × Remembers code old t ch
remembers_none code t ch f = ((λ q. None), record { since = record { each = λ p s e. absurd (f p s e) }; fine = λ q y e. cc })

pub remembers_after : {A : Type 0} → (code : Code) (t : Table) (p : ℕ) (x : At) (o : Result A Rule) (states : List State) (old : Assigned) (ch new : List (Option Span)) → IsPending t p x → visit_of o states ≡ visit code t p x → Remembers code old t ch → OnOk o (Since (updated old p x) (at (map cell_of states)) new) → OnOk o ((old : Assigned) × Remembers code old (map cell_of states) new)
remembers_after code t p x (Err r) states old ch new w e m h = tt
remembers_after code t p x (Ok a) states old ch new w e m h = (updated old p x, record { since = h; fine = λ q y is. by_place q y is (nat_decides q p) })
  where
    u : Table
    u = map cell_of states

    visited : Visited code t p x u
    visited = at_visit (visit code t p x) (λ r. Unit {0}) (Visited code t p x) u (sym e) (visit_on code t p x)

    by_place : (q : ℕ) (y : At) → updated old p x q ≡ Some y → (q ≡ p) ⊎ (q ≡ p → ⊥) → Fine code (at u) q y
    by_place q y is (inl g) =
        let same : x ≡ y = some_is x y (sym (updated_here old p x) ∙ subst (λ z. updated old p x z ≡ Some y) g is) in
        subst (λ z. Fine code (at u) z y) (sym g) (subst (Fine code (at u) p) same (record { action = visited.action; is = visited.is; handlers = visited.handlers; height = visited.height; state = visited.state; falls = visited.falls; along = visited.puts.along }))
    by_place q y is (inr g) = fine_grows code (at t) (at u) q y (visited_grows code t p x u w visited) (m.fine q y (sym (updated_there old p x q g) ∙ is))

pub still_holds : (code : Code) (t : Table) (p : ℕ) (x : At) (i : Action) (s : Span) (old : Assigned) (ch : List (Option Span)) → Remembers code old t ch → at t p ≡ Some x → slice_get code.actions p ≡ Some i → slice_get ch p ≡ Some (Some s) → IsClear i (length (base i x)) s → StillHolds code t p x i s
still_holds code t p x i s old ch m here is e c =
    let d = m.since.each p s e in
    let same : d.now.now ≡ x = some_is d.now.now x (sym d.now.is ∙ here) in
    recalled code t p x d.before i s (m.fine p d.before d.was) is
    (subst (λ z. SameOutside s d.before.slots z.slots) same d.now.slots)
    (d.now.entries ∙ ap (λ z. z.entries) same) c

pub if_ok_both : {A E : Type 0} → (r : Result A E) (P Q R : A → Type 0) → ((a : A) → P a → Q a → R a) → IfOk r P → IfOk r Q → IfOk r R
if_ok_both (Ok a) P Q R f h g = f a h g
if_ok_both (Err e) P Q R f h g = h

-- Changes, one by one.

pub past_none : (ch : List (Option Span)) (p : ℕ) (s : Span) → length ch ≤ p → slice_get ch p ≡ Some (Some s) → ⊥
past_none [] p s le e = cc
past_none (c ∷ ch) zero s le e = absurd (omega (arith, le))
past_none (c ∷ ch) (suc p) s le e = past_none ch p s (omega (arith, le)) e

set_here : (ch : List (Option Span)) (p : ℕ) (r u : Span) → slice_get ch p ≡ Some (Some r) → slice_get (set ch p (Some u)) p ≡ Some (Some u)
set_here [] p r u e = cc
set_here (c ∷ ch) zero r u e = refl
set_here (c ∷ ch) (suc p) r u e = set_here ch p r u e

pub elsewhere_set : (ch : List (Option Span)) (p : ℕ) (o : Option Span) (q : ℕ) → (q ≡ p → ⊥) → slice_get (set ch p o) q ≡ slice_get ch q
elsewhere_set [] p o q g = refl
elsewhere_set (c ∷ ch) zero o zero g = absurd (g refl)
elsewhere_set (c ∷ ch) zero o (suc q) g = refl
elsewhere_set (c ∷ ch) (suc p) o zero g = refl
elsewhere_set (c ∷ ch) (suc p) o (suc q) g = elsewhere_set ch p o q (λ e. g (ap suc e))

pub widened_set : (ch : List (Option Span)) (p : ℕ) (r u span : Span) → slice_get ch p ≡ Some (Some r) → ((n : ℕ) → In r n → In u n) → ((n : ℕ) → In span n → In u n) → Widened ch (set ch p (Some u)) p span
widened_set ch p r u span is f g s e =
    let same : u ≡ s = some_is u s (some_is (Some u) (Some s) (sym (set_here ch p r u is) ∙ e)) in
    (r, is, (λ n h. subst (λ z. In z n) same (f n h)), (λ n h. subst (λ z. In z n) same (g n h)))

pub each_all : (a : Assigned) (es : List Edge) → EachOutside None a es
each_all a [] = tt
each_all a (e ∷ es) = (tt, each_all a es)

pub empty_none : (ch : List (Option Span)) → ch ≡ [] → (p : ℕ) (s : Span) → slice_get ch p ≡ Some (Some s) → ⊥
empty_none ch e p s is = nothing p (subst (λ l. slice_get l p ≡ Some (Some s)) e is)
  where
    nothing : (p : ℕ) → slice_get [] p ≡ Some (Some s) → ⊥
    nothing p h = cc

pub remembers_anew : (code : Code) (old : Assigned) (t : Table) (ch new : List (Option Span)) → Remembers code old t ch → Since old (at t) new → Remembers code old t new
remembers_anew code old t ch new m h = record { since = h; fine = m.fine }

pub since_none : (old a : Assigned) (new : List (Option Span)) → ((p : ℕ) (s : Span) → slice_get new p ≡ Some (Some s) → ⊥) → Since old a new
since_none old a new f = record { each = λ p s e. absurd (f p s e) }
