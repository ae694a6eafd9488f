-- A visit of one position.
use Rattle.std.proofs.Common.{◌≡◌, ℕ, zero, suc, ◌+◌, ◌-◌, ◌<◌, ◌≤◌, Bool, true, false, not, ◌&&◌, List, [], ◌∷◌, length, map, drop, Option, Some, None, refl, sym, ap, ◌∙◌, subst, arith}
use Rattle.std.specs.Prelude.{nat_eq, ◌||◌, slice_get}
use Rattle.std.proofs.lemmas.Bool.{and_parts, and_from, eqb-true, false≢true, or_right, leb-true}
use Rattle.bc_shapes.specs.declared.kinds.Kind.{Kind}
use Rattle.bc_shapes.specs.Shape.{At, opens, same_entries}
use Rattle.bc_shapes.proofs.Joins.{On, Has, on_at, same_entries_from, opens_most}
use Rattle.bc_flow.specs.Action.{Action}
use Rattle.bc_flow.specs.Edges.{How, Next, There, Run, Way, ways, holds, finds, slots_of, room, stays, Edge, edge_of, edges}
use Rattle.bc_flow.specs.Code.{Code}
use Rattle.bc_flow.specs.declared.code.Rule.{Rule}
use Rattle.bc_flow.specs.Verified.{Grows, Assigned, Leads, Each, none, also, Fine, Unseen, Pending, Done, Table, at, put, put_next, agrees, others, agree, done_at, Visit, Bad, Good, after_holds, visit_action, visit, IsPending, here, later}
use Rattle.bc_flow.proofs.Puts.{grows_refl, grows_on, leads_on, IsDone, at_here, at_later, weigh, Puts, put_on, put_has, some_is}

-- each edge has at most `most` slots
pub data Small (most : ℕ) : List Edge → Type 0 where
  small_none : Small most []
  small_also : {e : Edge} {es : List Edge} → opens e.at.slots ≤ most → Small most es → Small most (e ∷ es)

-- a table after all edges
pub record PutsAll (t : Table) (es : List Edge) (u : Table) : Type 0 where
  pub grows : Grows (at t) (at u)
  pub along : Each (at u) es
  pub done : (q : ℕ) (z : At) → IsDone u q z → IsDone t q z
  pub lighter : (most : ℕ) → Small most es → weigh most u ≤ weigh most t
  pub long : length u ≡ length t

put_step : (es : List Edge) (o : Option Table) (P Q : Table → Type 0) → On o P → ((u : Table) → P u → On (put_next es (Some u)) Q) → On (put_next es o) Q
put_step es None P Q h f = tt
put_step es (Some u) P Q h f = f u h

on_weak : {A : Type 0} → (o : Option A) (P Q : A → Type 0) → ((x : A) → P x → Q x) → On o P → On o Q
on_weak None P Q f h = tt
on_weak (Some x) P Q f h = f x h

pub puts_all : (es : List Edge) (t : Table) → On (put_next es (Some t)) (PutsAll t es)
puts_all [] t = record { grows = grows_refl (at t); along = none; done = λ q z h. h; lighter = λ most s. omega arith; long = refl }
puts_all (e ∷ es) t = put_step es (put t e.to e.at) (Puts t e.to e.at) (PutsAll t (e ∷ es)) (put_on t e.to e.at)
    (λ u m. on_weak (put_next es (Some u)) (PutsAll u es) (PutsAll t (e ∷ es)) (λ v r. both u v m r) (puts_all es u))
  where
    lighter : (u v : Table) → Puts t e.to e.at u → PutsAll u es v → (most : ℕ) → Small most (e ∷ es) → weigh most v ≤ weigh most t
    lighter u v m r most (small_also le s) = let a = m.lighter most le in let b = r.lighter most s in omega (arith, a, b)

    both : (u v : Table) → Puts t e.to e.at u → PutsAll u es v → PutsAll t (e ∷ es) v
    both u v m r = record {
      grows = grows_on (at t) (at u) (at v) m.grows r.grows;
      along = also (leads_on (at u) (at v) e r.grows m.leads) r.along;
      done = λ q z h. m.done q z (r.done q z h);
      lighter = lighter u v m r;
      long = r.long ∙ m.long;
    }

has_step : (es : List Edge) (o : Option Table) (P Q : Table → Type 0) → Has o P → ((u : Table) → P u → o ≡ Some u → Has (put_next es (Some u)) Q) → Has (put_next es o) Q
has_step es None P Q h f = absurd h
has_step es (Some u) P Q h f = f u h refl

-- below an assignment with instructions at all its positions there is room for all edges
pub puts_has : (a : Assigned) (n : ℕ) → ((p : ℕ) (x : At) → a p ≡ Some x → p < n) → (es : List Edge) (t : Table) → length t ≡ n → Grows (at t) a → Each a es → Has (put_next es (Some t)) (λ u. Grows (at u) a)
puts_has a n f [] t long g none = g
puts_has a n f (e ∷ es) t long g (also l h) = has_step es (put t e.to e.at) (λ u. Grows (at u) a) (λ u. Grows (at u) a)
    (put_has a t e.to e.at (let lt = f e.to l.at l.is in omega (arith, lt, long)) g l)
    (λ u g2 is. let m : Puts t e.to e.at u = on_at (put t e.to e.at) (Puts t e.to e.at) u is (put_on t e.to e.at) in
    puts_has a n f es u (m.long ∙ long) g2 h)

-- and lists of entries agree
agrees_below : (a : Assigned) (t : Table) (n : ℕ) (x : At) → n < length t → Grows (at t) a → Leads a (record { to = n; at = x }) → agrees t n x.entries ≡ true
agrees_below a [] n x lt g l = absurd (omega (arith, lt))
agrees_below a (Unseen ∷ t) zero x lt g l = refl
agrees_below a (Pending y ∷ t) zero x lt g l = let m = g.each 0 y refl in same_entries_from y.entries x.entries (m.under.entries ∙ ap (λ z. z.entries) (some_is m.at l.at (sym m.is ∙ l.is)) ∙ sym l.under.entries)
agrees_below a (Done y ∷ t) zero x lt g l = let m = g.each 0 y refl in same_entries_from y.entries x.entries (m.under.entries ∙ ap (λ z. z.entries) (some_is m.at l.at (sym m.is ∙ l.is)) ∙ sym l.under.entries)
agrees_below a (c ∷ t) (suc n) x lt g l = agrees_below (λ p. a (suc p)) t n x (omega (arith, lt)) (record { each = λ p y e. let m = g.each (suc p) y e in record { at = m.at; is = m.is; under = m.under } }) (record { at = l.at; is = l.is; under = l.under })

other_if : (b : Bool) (a : Assigned) (e f : Edge) → nat_eq e.to f.to ≡ b → Leads a e → Leads a f → (not b || same_entries e.at.entries f.at.entries) ≡ true
other_if false a e f t l m = refl
other_if true a e f t l m = or_right (not true) _ (same_entries_from e.at.entries f.at.entries (l.under.entries ∙ ap (λ z. z.entries) (some_is l.at m.at (sym l.is ∙ ap a (eqb-true e.to f.to t) ∙ m.is)) ∙ sym m.under.entries))

others_below : (a : Assigned) (e : Edge) (es : List Edge) → Leads a e → Each a es → others e es ≡ true
others_below a e [] l none = refl
others_below a e (f ∷ es) l (also m h) = and_from (not (nat_eq e.to f.to) || same_entries e.at.entries f.at.entries) (others e es) (other_if (nat_eq e.to f.to) a e f refl l m) (others_below a e es l h)

pub agree_below : (a : Assigned) (n : ℕ) → ((p : ℕ) (x : At) → a p ≡ Some x → p < n) → (t : Table) → length t ≡ n → Grows (at t) a → (es : List Edge) → Each a es → agree t es ≡ true
agree_below a n f t long g [] none = refl
agree_below a n f t long g (e ∷ es) (also l h) =
    and_from (agrees t e.to e.at.entries && others e es) (agree t es)
    (and_from (agrees t e.to e.at.entries) (others e es) (agrees_below a t e.to e.at (let lt = f e.to l.at l.is in omega (arith, lt, long)) g l) (others_below a e es l h))
    (agree_below a n f t long g es h)

-- The position is done, until it changes again.

pub done-long : (t : Table) (p : ℕ) (x : At) → length (done_at t p x) ≡ length t
done-long [] p x = refl
done-long (c ∷ t) zero x = refl
done-long (c ∷ t) (suc p) x = ap suc (done-long t p x)

pub done-at : (t : Table) (p : ℕ) (x : At) → IsPending t p x → (q : ℕ) → at (done_at t p x) q ≡ at t q
done-at t p x here zero = refl
done-at t p x here (suc q) = refl
done-at t p x (later h) zero = refl
done-at t p x (later {t = u} {p = r} h) (suc q) = done-at u r x h q

pub pending_is : (t : Table) (p : ℕ) (x : At) → IsPending t p x → at t p ≡ Some x
pending_is t p x here = refl
pending_is t p x (later {t = u} {p = r} h) = pending_is u r x h

pub pending_in : (t : Table) (p : ℕ) (x : At) → IsPending t p x → p < length t
pending_in t p x here = omega arith
pending_in t p x (later {t = u} {p = r} h) = let lt = pending_in u r x h in omega (arith, lt)

pub done_cases : (t : Table) (p : ℕ) (x : At) (P : ℕ → At → Type 0) → IsPending t p x → P p x → ((q : ℕ) (z : At) → IsDone t q z → P q z) → (q : ℕ) (z : At) → IsDone (done_at t p x) q z → P q z
done_cases t p x P here px f q z at_here = px
done_cases t p x P here px f q z (at_later h) = f q z (at_later h)
done_cases t p x P (later w) px f q z at_here = f q z at_here
done_cases t p x P (later {t = u} {p = r} w) px f q z (at_later {p = k} h) = done_cases u r x (λ n y. P (suc n) y) w px (λ n y d. f (suc n) y (at_later d)) k z h

pub done-weigh : (most : ℕ) (t : Table) (p : ℕ) (x : At) → IsPending t p x → weigh most (done_at t p x) + 1 ≡ weigh most t
done-weigh most t p x here = omega arith
done-weigh most t p x (later {t = u} {p = r} h) = let e = done-weigh most u r x h in omega (arith, e)

-- The checks.

abbrev pub OnVisit : Visit → (Rule → Type 0) → (Table → Type 0) → Type 0
OnVisit (Bad r) P Q = P r
OnVisit (Good u) P Q = Q u

checks_on : (h f r s : Bool) (o : Option Table) (P Q : Table → Type 0) → On o P → (h ≡ true → f ≡ true → r ≡ true → s ≡ true → (u : Table) → P u → Q u) → OnVisit (after_holds h f r s o) (λ _. Unit {0}) Q
checks_on true true true true (Some u) P Q h k = k refl refl refl refl u h
checks_on true true true false (Some u) P Q h k = tt
checks_on true true false s (Some u) P Q h k = tt
checks_on true true r s None P Q h k = tt
checks_on true false r s o P Q h k = tt
checks_on false f r s o P Q h k = tt

checks_has : (h f r s : Bool) (o : Option Table) (P : Table → Type 0) → h ≡ true → f ≡ true → r ≡ true → s ≡ true → Has o P → OnVisit (after_holds h f r s o) (λ _. ⊥) P
checks_has true true true true (Some u) P a b c d h = h
checks_has true true true true None P a b c d h = h
checks_has true true true false o P a b c d h = absurd (false≢true d)
checks_has true true false s o P a b c d h = absurd (false≢true c)
checks_has true false r s o P a b c d h = absurd (false≢true b)
checks_has false f r s o P a b c d h = absurd (false≢true a)

pub record Visited (code : Code) (t : Table) (p : ℕ) (x : At) (u : Table) : Type 0 where
  pub action : Action
  pub is : slice_get code.actions p ≡ Some action
  pub handlers : holds code action p (length x.slots) x.entries ≡ true
  pub height : finds action x ≡ true
  pub state : room code action x ≡ true
  pub falls : stays code action p ≡ true
  pub puts : PutsAll (done_at t p x) (edges code action p x) u

visit_action_on : (code : Code) (t : Table) (p : ℕ) (x : At) (o : Option Action) → slice_get code.actions p ≡ o → OnVisit (visit_action code t p x o) (λ _. Unit {0}) (Visited code t p x)
visit_action_on code t p x None e = tt
visit_action_on code t p x (Some i) e =
    checks_on (holds code i p (length x.slots) x.entries && agree t (edges code i p x)) (finds i x) (room code i x) (stays code i p) (put_next (edges code i p x) (Some (done_at t p x))) (PutsAll (done_at t p x) (edges code i p x)) (Visited code t p x)
    (puts_all (edges code i p x) (done_at t p x))
    (λ a b c d u m. record { action = i; is = e; handlers = (and_parts (holds code i p (length x.slots) x.entries) (agree t (edges code i p x)) a).0; height = b; state = c; falls = d; puts = m })

pub visit_on : (code : Code) (t : Table) (p : ℕ) (x : At) → OnVisit (visit code t p x) (λ _. Unit {0}) (Visited code t p x)
visit_on code t p x = visit_action_on code t p x (slice_get code.actions p) refl

-- the rules hold at the position, so the visit is good, and its table stays below the assignment
pub visit_has : (code : Code) (a : Assigned) (n : ℕ) → ((p : ℕ) (x : At) → a p ≡ Some x → p < n) → (t : Table) (p : ℕ) (x : At) → length t ≡ n → Grows (at t) a → IsPending t p x → Fine code a p x → OnVisit (visit code t p x) (λ _. ⊥) (λ u. Grows (at u) a)
visit_has code a n f t p x long g w fine =
    subst (λ o. OnVisit (visit_action code t p x o) (λ _. ⊥) (λ u. Grows (at u) a)) (sym fine.is)
    (checks_has (holds code fine.action p (length x.slots) x.entries && agree t (edges code fine.action p x)) (finds fine.action x) (room code fine.action x) (stays code fine.action p) (put_next (edges code fine.action p x) (Some (done_at t p x))) (λ u. Grows (at u) a)
    (and_from _ _ fine.handlers (agree_below a n f t long g (edges code fine.action p x) fine.along))
    fine.height fine.state fine.falls
    (puts_has a n f (edges code fine.action p x) (done_at t p x) (done-long t p x ∙ long) (record { each = λ q z e. g.each q z (sym (done-at t p x w q) ∙ e) }) fine.along))

-- How far a run can go.

drop_most : (n : ℕ) (ks : List Kind) → length (drop n ks) ≤ length ks
drop_most zero ks = omega arith
drop_most (suc n) [] = omega arith
drop_most (suc n) (k ∷ ks) = let h = drop_most n ks in omega (arith, h)

run_small : (i : Action) (x : At) (h : ℕ) (last : Bool) → opens (slots_of i x (Run h last)) ≤ suc (length x.slots)
unfolding slots_of
run_small i x h true = let n = length x.slots - h in let a = opens_most (drop n x.slots) in let b = drop_most n x.slots in omega (arith, a, b)
run_small i x h false = let n = length x.slots - h in let a = opens_most (drop n x.slots) in let b = drop_most n x.slots in omega (arith, a, b)

slots_small : (code : Code) (i : Action) (x : At) → room code i x ≡ true → (h : How) → opens (slots_of i x h) ≤ suc code.n_state
unfolding room
slots_small code i x r Next = let p = and_parts _ _ r in let q = and_parts _ _ p.0 in let le : code.locals + length (slots_of i x Next) ≤ code.n_state = leb-true _ _ q.1 in let o = opens_most (slots_of i x Next) in omega (arith, le, o)
slots_small code i x r There = let p = and_parts _ _ r in let le : code.locals + length (slots_of i x There) ≤ code.n_state = leb-true _ _ p.1 in let o = opens_most (slots_of i x There) in omega (arith, le, o)
slots_small code i x r (Run h last) = let p = and_parts _ _ r in let q = and_parts _ _ p.0 in let le : code.locals + length x.slots ≤ code.n_state = leb-true _ _ q.0 in let o = run_small i x h last in omega (arith, le, o)

ways_small : (code : Code) (i : Action) (x : At) → room code i x ≡ true → (ws : List Way) → Small (suc code.n_state) (map (edge_of i x) ws)
ways_small code i x r [] = small_none
ways_small code i x r (w ∷ ws) = small_also (slots_small code i x r w.how) (ways_small code i x r ws)

pub visited_lighter : (code : Code) (t : Table) (p : ℕ) (x : At) (u : Table) → IsPending t p x → Visited code t p x u → weigh (suc code.n_state) u < weigh (suc code.n_state) t
visited_lighter code t p x u w v =
    let a = v.puts.lighter (suc code.n_state) (ways_small code v.action x v.state (ways code v.action p (length x.slots) x.entries)) in
    let e = done-weigh (suc code.n_state) t p x w in
    omega (arith, a, e)
