-- The walk comes from one first visit to the next.
use Rattle.std.proofs.Common.{◌≡◌, ◌≢◌, ℕ, zero, suc, ◌<◌, ◌≤◌, ◌⊎◌, inl, inr, Bool, true, false, List, [], ◌∷◌, length, map, get_or, set, Some, None, refl, sym, ap, subst, ◌∙◌, arith, if◌then◌else◌}
use Rattle.std.proofs.lemmas.Bool.{true≢false, false≢true}
use Rattle.std.proofs.lemmas.List.{length-set, get_or-set_same, get_or-set_other}
use Rattle.std.proofs.lemmas.Option.{none-some}
use Rattle.bc_flow.specs.bc_shapes.Shape.{At, Under}
use Rattle.bc_flow.proofs.bc_shapes_lemmas.Joins.{under_refl, under_trans}
use Rattle.bc_flow.specs.Action.{Action}
use Rattle.bc_flow.specs.Code.{Code}
use Rattle.bc_flow.specs.Edges.{Edge, Way, edge_of, edges, ways}
use Rattle.bc_flow.specs.Verified.{Assigned, Bad, Cell, Comes, Done, Each, none, also, Fine, Good, Grows, IsLeast, IsPending, here, later, Leads, Pending, Table, Unseen, Visit, at, done_at, visit}
use Rattle.bc_flow.proofs.Mono.{edges_under, fine_under, ways_under}
use Rattle.bc_flow.proofs.Puts.{IsDone, at_here, at_later, grows_on, leads_on, some_is, weigh}
use Rattle.bc_flow.proofs.Visits.{OnVisit, Visited, done_cases, pending_is, visit_has, visit_on, visited_lighter}
use Rattle.bc_flow.proofs.Decides.{at_visit, comes_reached, fine_grows, kept, visited_grows}
use Rattle.bc_refusals.specs.Stages.{BeginAll, Begins, Brings, first, more, IsNext, IsSet, Keeps, LeadAll, Stage, Staged, come, opened, within}
use Rattle.bc_refusals.proofs.Opened.{edge_open, opened_under}

-- Tables.

-- what holds at a position is pending or done
seen_cases : (t : Table) (p : ℕ) (x : At) → at t p ≡ Some x → IsPending t p x ⊎ IsDone t p x
seen_cases [] p x e = cc
seen_cases (Unseen ∷ t) zero x e = cc
seen_cases (Pending y ∷ t) zero x e = inl (subst (λ z. IsPending (Pending y ∷ t) 0 z) (some_is y x e) here)
seen_cases (Done y ∷ t) zero x e = inr (subst (λ z. IsDone (Done y ∷ t) 0 z) (some_is y x e) at_here)
seen_cases (c ∷ t) (suc p) x e = by (seen_cases t p x e)
  where
    by : IsPending t p x ⊎ IsDone t p x → IsPending (c ∷ t) (suc p) x ⊎ IsDone (c ∷ t) (suc p) x
    by (inl w) = inl (later w)
    by (inr d) = inr (at_later d)

pending_done : (t : Table) (p : ℕ) (x y : At) → IsPending t p x → IsDone t p y → ⊥
pending_done _ _ _ y (here {t = t}) x10 = elim x10 [ ]
pending_done t p x y (later {t = u} {p = q} w) (at_later d) = pending_done u q x y w d

done_is : (t : Table) (p : ℕ) (x : At) → IsDone t p x → at t p ≡ Some x
done_is t p x at_here = refl
done_is t p x (at_later {t = u} {p = q} d) = done_is u q x d

-- what a visit leaves done elsewhere was done before
done_before : (t : Table) (p : ℕ) (x : At) → IsPending t p x → (q : ℕ) (z : At) → IsDone (done_at t p x) q z → (q ≡ p → ⊥) → IsDone t q z
done_before t p x w q z d ne = by (done_cases t p x (λ r v. (r ≡ p) ⊎ IsDone t r v) w (inl refl) (λ r v h. inr h) q z d)
  where
    by : (q ≡ p) ⊎ IsDone t q z → IsDone t q z
    by (inl e) = absurd (ne e)
    by (inr h) = h

none_pending : (x : At) (p : ℕ) → IsPending [] p x → ⊥
none_pending x p w = elim w [ ]

unseen_pending : (t : Table) (x : At) → IsPending (Unseen ∷ t) 0 x → ⊥
unseen_pending t x w = elim w [ ]

done_pending : (t : Table) (x y : At) → IsPending (Done y ∷ t) 0 x → ⊥
done_pending t x y w = elim w [ ]

pending_tail : (c : Cell) (t : Table) (p : ℕ) (x : At) → IsPending (c ∷ t) (suc p) x → IsPending t p x
pending_tail c t p x (later w) = w

abbrev pub HasLeast : Table → Type 0
HasLeast t = ((p : ℕ) × (x : At) × IsLeast t p x) ⊎ ((p : ℕ) (x : At) → IsPending t p x → ⊥)

least_later : (c : Cell) (t : Table) → ((x : At) → IsPending (c ∷ t) 0 x → ⊥) → HasLeast t → HasLeast (c ∷ t)
least_later c t no_head (inl m) = inl (suc m.0, m.1, record { pending = later m.2.pending; least = least })
  where
    least : (q : ℕ) (y : At) → IsPending (c ∷ t) q y → suc m.0 ≤ q
    least zero y w = absurd (no_head y w)
    least (suc q) y w = let le = m.2.least q y (pending_tail c t q y w) in omega (arith, le)
least_later c t no_head (inr f) = inr all
  where
    all : (q : ℕ) (y : At) → IsPending (c ∷ t) q y → ⊥
    all zero y w = no_head y w
    all (suc q) y w = f q y (pending_tail c t q y w)

has_least : (t : Table) → HasLeast t
has_least [] = inr (λ p x w. none_pending x p w)
has_least (Unseen ∷ t) = least_later Unseen t (unseen_pending t) (has_least t)
has_least (Done y ∷ t) = least_later (Done y) t (λ x. done_pending t x y) (has_least t)
has_least (Pending y ∷ t) = inl (0, y, record { pending = here; least = λ q z w. omega arith })

good_of : (v : Visit) (Q : Table → Type 0) → OnVisit v (λ _. ⊥) Q → (u : Table) × (v ≡ Good u) × Q u
good_of (Bad r) Q h = absurd h
good_of (Good u) Q h = (u, refl, h)

-- a code's table is as long as the code, where there is an instruction
pub table_size : (code : Code) (t : Table) (p : ℕ) → p < length code.actions → Comes code t → length t ≡ length code.actions
table_size code t p lt c = (kept code (λ e. let n = ap length e in omega (arith, lt, n)) t (comes_reached code t c)).long

-- Flags.

is_or_not : (n m : ℕ) → (n ≡ m) ⊎ (n ≢ m)
is_or_not zero zero = inl refl
is_or_not zero (suc m) = inr (λ e. omega (arith, e))
is_or_not (suc n) zero = inr (λ e. omega (arith, e))
is_or_not (suc n) (suc m) = by (is_or_not n m)
  where
    by : (n ≡ m) ⊎ (n ≢ m) → (suc n ≡ suc m) ⊎ (suc n ≢ suc m)
    by (inl e) = inl (ap suc e)
    by (inr f) = inr (λ e. f (omega (arith, e)))

pub set_inside : (flags : List Bool) (p : ℕ) → IsSet flags p → p < length flags
set_inside [] p e = absurd (false≢true e)
set_inside (b ∷ flags) zero e = omega arith
set_inside (b ∷ flags) (suc p) e = let lt = set_inside flags p e in omega (arith, lt)

-- where the assignment within flags has something
within_set : (b : Bool) (a : Assigned) (p : ℕ) (x : At) → (if b then a p else None) ≡ Some x → b ≡ true
within_set true a p x e = refl
within_set false a p x e = absurd (none-some x e)

pub within_is : (flags : List Bool) (a : Assigned) (p : ℕ) (x : At) → within flags a p ≡ Some x → IsSet flags p
within_is flags a p x e = within_set (get_or flags p false) a p x e

pub within_there : (flags : List Bool) (a : Assigned) (p : ℕ) → IsSet flags p → within flags a p ≡ a p
within_there flags a p e = ap (λ b. if b then a p else None) e

pub come-long : (flags : List Bool) (es : List Edge) → length (come flags es) ≡ length flags
come-long flags [] = refl
come-long flags (e ∷ es) = come-long (set flags e.to true) es ∙ length-set flags e.to true

set_kept : (flags : List Bool) (p q : ℕ) → IsSet flags q → IsSet (set flags p true) q
set_kept flags p q h = by (is_or_not q p)
  where
    by : (q ≡ p) ⊎ (q ≢ p) → IsSet (set flags p true) q
    by (inl e) = subst (IsSet (set flags p true)) (sym e) (get_or-set_same flags p true false (subst (λ n. n < length flags) e (set_inside flags q h)))
    by (inr f) = get_or-set_other flags p q true false f ∙ h

-- a flag that is set once another one was set
pub set_cases : (flags : List Bool) (p q : ℕ) → IsSet (set flags p true) q → (q ≡ p) ⊎ IsSet flags q
set_cases flags p q h = by (is_or_not q p)
  where
    by : (q ≡ p) ⊎ (q ≢ p) → (q ≡ p) ⊎ IsSet flags q
    by (inl e) = inl e
    by (inr f) = inr (sym (get_or-set_other flags p q true false f) ∙ h)

pub come_kept : (flags : List Bool) (es : List Edge) (q : ℕ) → IsSet flags q → IsSet (come flags es) q
come_kept flags [] q h = h
come_kept flags (e ∷ es) q h = come_kept (set flags e.to true) es q (set_kept flags e.to q h)

-- where something came, it was there before or an edge brought it
brought : (a : Assigned) (came flags : List Bool) (all es : List Edge) (q : ℕ) (z : At) → BeginAll a came all es → a q ≡ Some z → IsSet (come flags es) q → IsSet came q ⊎ (IsSet flags q ⊎ Brings q z all)
brought a came flags all [] q z l is h = inr (inl h)
brought a came flags all (e ∷ es) q z l is h = by (brought a came (set flags e.to true) all es q z l.1 is h)
  where
    at_end : q ≡ e.to → IsSet came e.to ⊎ Begins a e.to all → IsSet came q ⊎ (IsSet flags q ⊎ Brings q z all)
    at_end t (inl c) = inl (subst (IsSet came) (sym t) c)
    at_end t (inr b) = inr (inr (subst (λ y. Brings q y all) (some_is b.0 z (sym b.1 ∙ sym (ap a t) ∙ is)) (subst (λ n. Brings n b.0 all) (sym t) b.2)))

    by_place : (q ≡ e.to) ⊎ IsSet flags q → IsSet came q ⊎ (IsSet flags q ⊎ Brings q z all)
    by_place (inl t) = at_end t l.0
    by_place (inr f) = inr (inl f)

    by : IsSet came q ⊎ (IsSet (set flags e.to true) q ⊎ Brings q z all) → IsSet came q ⊎ (IsSet flags q ⊎ Brings q z all)
    by (inl c) = inl c
    by (inr (inl s)) = by_place (set_cases flags e.to q s)
    by (inr (inr b)) = inr (inr b)

-- and the assignment has something there
come_there : (a : Assigned) (came flags : List Bool) (es : List Edge) (q : ℕ) → LeadAll a came es → IsSet (come flags es) q → IsSet flags q ⊎ ((z : At) × (a q ≡ Some z))
come_there a came flags [] q l h = inl h
come_there a came flags (e ∷ es) q l h = by (come_there a came (set flags e.to true) es q l.1 h)
  where
    by_place : IsSet (set flags e.to true) q → (q ≡ e.to) ⊎ (q ≢ e.to) → IsSet flags q ⊎ ((z : At) × (a q ≡ Some z))
    by_place s (inl t) = inr (l.0.leads.at, ap a t ∙ l.0.leads.is)
    by_place s (inr f) = inl (sym (get_or-set_other flags e.to q true false f) ∙ s)

    by : IsSet (set flags e.to true) q ⊎ ((z : At) × (a q ≡ Some z)) → IsSet flags q ⊎ ((z : At) × (a q ≡ Some z))
    by (inl s) = by_place s (is_or_not q e.to)
    by (inr r) = inr r

-- the edges lead to where something came
pub lead_each : (a : Assigned) (came flags : List Bool) (es : List Edge) → length flags ≡ length came → LeadAll a came es → Each (within (come flags es) a) es
lead_each a came flags [] long l = none
lead_each a came flags (e ∷ es) long l =
    let m = l.0.leads in
    let there : IsSet (come (set flags e.to true) es) e.to = come_kept (set flags e.to true) es e.to (get_or-set_same flags e.to true false (let lt = l.0.inside in omega (arith, lt, long))) in
    also (record { at = m.at; is = within_there (come (set flags e.to true) es) a e.to there ∙ m.is; under = m.under })
    (lead_each a came (set flags e.to true) es (length-set flags e.to true ∙ long) l.1)

-- what an edge brought arrived
brings_leads : (b : Assigned) (i : Action) (x : At) (q : ℕ) (z : At) (ws : List Way) → Brings q z (map (edge_of i x) ws) → Each b (map (edge_of i (opened x)) ws) → Leads b (record { to = q; at = opened z })
brings_leads b i x q z [] h each = elim h [ ]
brings_leads b i x q z (w ∷ ws) (first t u) (also l each) =
    record {
      at = l.at;
      is = sym (ap b t) ∙ l.is;
      under = under_trans (opened z) (opened (edge_of i x w).at) l.at u (under_trans (opened (edge_of i x w).at) (edge_of i (opened x) w).at l.at (edge_open i w x) l.under);
    }
brings_leads b i x q z (w ∷ ws) (more h) (also l each) = brings_leads b i x q z ws h each

-- Stages.

-- the walk comes to a first visit
pub record Settled (code : Code) (a : Assigned) (came gone : List Bool) (p : ℕ) : Type 0 where
  pub table : Table
  pub stage : Stage code a came gone table
  pub shape : At
  pub least : IsLeast table p shape

module _ (code : Code) (a : Assigned) (came gone : List Bool) where
  abbrev b : Assigned
  b = within came a

  inside : length came ≡ length code.actions → (p : ℕ) (x : At) → b p ≡ Some x → p < length code.actions
  inside long p x e = let lt = set_inside came p (within_is came a p x e) in omega (arith, lt, long)

  came_there : (t : Table) → Stage code a came gone t → (p : ℕ) (x : At) → at t p ≡ Some x → IsSet came p
  came_there t s p x e = let l = s.between.below.each p x e in within_is came a p l.at l.is

  -- a position that waits for its first visit is pending after another's visit
  still : (t : Table) (p : ℕ) (x : At) (u : Table) → IsPending t p x → Visited code t p x u → (q : ℕ) (y : At) → IsPending t q y → (q ≡ p → ⊥) → (z : At) × IsPending u q z
  still t p x u w v q y m ne =
      let l = (visited_grows code t p x u w v).each q y (pending_is t q y m) in
      by l.at (seen_cases u q l.at l.is)
    where
      by : (z : At) → IsPending u q z ⊎ IsDone u q z → (z : At) × IsPending u q z
      by z (inl h) = (z, h)
      by z (inr d) = absurd (pending_done t q y z m (done_before t p x w q z (v.puts.done q z d) ne))

  -- a visit of a position that is gone
  module _ (t : Table) (s : Stage code a came gone t) (q : ℕ) (y : At) (l : IsLeast t q y) (g : IsSet gone q) where
    has : (u : Table) × (visit code t q y ≡ Good u) × Grows (at u) b
    has =
        let m = s.between.below.each q y (pending_is t q y l.pending) in
        good_of (visit code t q y) (λ u. Grows (at u) b)
        (visit_has code b (length code.actions) (inside s.long) t q y (table_size code t q (inside s.long q m.at m.is) s.comes) s.between.below l.pending
        (fine_under code b q y m.at m.under (s.fine q m.at m.is g)))

    visited : Visited code t q y has.0
    visited = at_visit (visit code t q y) _ (Visited code t q y) has.0 has.1 (visit_on code t q y)

    lighter : weigh (suc code.n_state) has.0 < weigh (suc code.n_state) t
    lighter = visited_lighter code t q y has.0 l.pending visited

    again : Stage code a came gone has.0
    again = record {
      comes = Comes.goes s.comes l has.1;
      long = s.long;
      between = record {
        below = has.2;
        above = λ p x e. leads_on (at t) (at has.0) _ (visited_grows code t q y has.0 l.pending visited) (s.between.above p x e);
      };
      went = s.went;
      fine = s.fine;
      first = λ p c w. still t q y has.0 l.pending visited p (s.first p c w).0 (s.first p c w).1 (λ e. true≢false (sym g ∙ sym (ap (λ n. get_or gone n false) e) ∙ w));
    }

  -- the walk settles from each lighter table
  abbrev Lighter : ℕ → ℕ → Type 0
  Lighter n p = (u : Table) → weigh (suc code.n_state) u < n → Stage code a came gone u → Settled code a came gone p

  settle_on : (n : ℕ) (t : Table) (p : ℕ) → Lighter n p → weigh (suc code.n_state) t < suc n → Stage code a came gone t → IsNext came gone p → HasLeast t → Settled code a came gone p
  settle_on n t p ih lt s next (inr f) = let y = s.first p next.came_there next.waits in absurd (f p y.0 y.1)
  settle_on n t p ih lt s next (inl m) = by_gone (get_or gone m.0 false) refl
    where
      same_place : p < m.0 ⊎ (p ≡ m.0) → m.0 ≤ p → p ≡ m.0
      same_place (inl lt) le = absurd (omega (arith, lt, le))
      same_place (inr e) le = e

      is_next : get_or gone m.0 false ≡ false → p ≡ m.0
      is_next w =
          let y = s.first p next.came_there next.waits in
          same_place (next.least m.0 (came_there t s m.0 m.1 (pending_is t m.0 m.1 m.2.pending)) w) (m.2.least p y.0 y.1)

      by_gone : (g : Bool) → get_or gone m.0 false ≡ g → Settled code a came gone p
      by_gone true e = ih (has t s m.0 m.1 m.2 e).0 (let less = lighter t s m.0 m.1 m.2 e in omega (arith, less, lt)) (again t s m.0 m.1 m.2 e)
      by_gone false e = record { table = t; stage = s; shape = m.1; least = subst (λ r. IsLeast t r m.1) (sym (is_next e)) m.2 }

  settle : (n : ℕ) (t : Table) → weigh (suc code.n_state) t < n → Stage code a came gone t → (p : ℕ) → IsNext came gone p → Settled code a came gone p
  settle zero t lt s p next = absurd (omega (arith, lt))
  settle (suc n) t lt s p next = settle_on n t p (λ u less r. settle n u less r p next) lt s next (has_least t)

  pub settled : Staged code a came gone → (p : ℕ) → IsNext came gone p → Settled code a came gone p
  settled s p next = settle (suc (weigh (suc code.n_state) s.0)) s.0 (omega arith) s.1 p next

-- A first visit.

module _ (code : Code) (a : Assigned) (came gone : List Bool) (p : ℕ) (x : At) (is : a p ≡ Some x) (next : IsNext came gone p) (k : Keeps code a came p x) where
  abbrev es : List Edge
  es = edges code k.action p x

  abbrev came2 : List Bool
  came2 = come came es

  abbrev gone2 : List Bool
  gone2 = set gone p true

  abbrev b2 : Assigned
  b2 = within came2 a

  here_is : within came a p ≡ Some x
  here_is = within_there came a p next.came_there ∙ is

  rises : Grows (within came a) b2
  rises = record { each = λ q z e. let c = within_is came a q z e in record { at = z; is = within_there came2 a q (come_kept came es q c) ∙ sym (within_there came a q c) ∙ e; under = under_refl z } }

  fine_here : Fine code b2 p x
  fine_here = record {
    action = k.action;
    is = k.is;
    handlers = k.own.handlers;
    height = k.own.height;
    state = k.own.state;
    falls = k.own.falls;
    along = lead_each a came came es refl k.lead;
  }

  module _ (t : Table) (s : Stage code a came gone t) (y : At) (l : IsLeast t p y) where
    long2 : length came2 ≡ length code.actions
    long2 = come-long came es ∙ s.long

    below_here : Under y x
    below_here = let m = s.between.below.each p y (pending_is t p y l.pending) in subst (Under y) (some_is m.at x (sym m.is ∙ here_is)) m.under

    above_here : Under (opened x) y
    above_here = let m = s.between.above p x here_is in subst (Under (opened x)) (some_is m.at y (sym m.is ∙ pending_is t p y l.pending)) m.under

    goes : (u : Table) × (visit code t p y ≡ Good u) × Grows (at u) b2
    goes =
        good_of (visit code t p y) (λ u. Grows (at u) b2)
        (visit_has code b2 (length code.actions) (λ q z e. let lt = set_inside came2 q (within_is came2 a q z e) in omega (arith, lt, long2)) t p y (table_size code t p (let lt = set_inside came p next.came_there in let n = s.long in omega (arith, lt, n)) s.comes)
        (grows_on (at t) (within came a) b2 s.between.below rises) l.pending (fine_under code b2 p y x below_here fine_here))

    done : Visited code t p y goes.0
    done = at_visit (visit code t p y) _ (Visited code t p y) goes.0 goes.1 (visit_on code t p y)

    went_on : Grows (at t) (at goes.0)
    went_on = visited_grows code t p y goes.0 l.pending done

    -- the edges of what may have been there first
    low_each : Each (at goes.0) (edges code k.action p (opened x))
    low_each =
        let i : done.action ≡ k.action = some_is done.action k.action (sym done.is ∙ k.is) in
        edges_under code (at goes.0) k.action p (opened x) y above_here (subst (λ z. Each (at goes.0) (edges code z p y)) i done.puts.along)

    low_leads : (q : ℕ) (z : At) → Brings q z es → Leads (at goes.0) (record { to = q; at = opened z })
    low_leads q z h =
        brings_leads (at goes.0) k.action x q z (ways code k.action p (length x.slots) x.entries) h
        (subst (λ ws. Each (at goes.0) (map (edge_of k.action (opened x)) ws)) (sym (ways_under code k.action p (opened x) x (opened_under x))) low_each)

    above2 : (q : ℕ) (z : At) → b2 q ≡ Some z → Leads (at goes.0) (record { to = q; at = opened z })
    above2 q z e = by (brought a came came es es q z k.begins (sym (within_there came2 a q (within_is came2 a q z e)) ∙ e) (within_is came2 a q z e))
      where
        old : IsSet came q → Leads (at goes.0) (record { to = q; at = opened z })
        old c = leads_on (at t) (at goes.0) _ went_on (s.between.above q z (within_there came a q c ∙ sym (within_there came2 a q (within_is came2 a q z e)) ∙ e))

        by : IsSet came q ⊎ (IsSet came q ⊎ Brings q z es) → Leads (at goes.0) (record { to = q; at = opened z })
        by (inl c) = old c
        by (inr (inl c)) = old c
        by (inr (inr h)) = low_leads q z h

    went2 : (q : ℕ) → IsSet gone2 q → IsSet came2 q
    went2 q g = by (set_cases gone p q g)
      where
        by : (q ≡ p) ⊎ IsSet gone q → IsSet came2 q
        by (inl e) = come_kept came es q (subst (IsSet came) (sym e) next.came_there)
        by (inr h) = come_kept came es q (s.went q h)

    fine2 : (q : ℕ) (z : At) → b2 q ≡ Some z → IsSet gone2 q → Fine code b2 q z
    fine2 q z e g = by (set_cases gone p q g)
      where
        by : (q ≡ p) ⊎ IsSet gone q → Fine code b2 q z
        by (inl h) =
            let zx : z ≡ x = some_is z x (sym e ∙ ap b2 h ∙ within_there came2 a p (come_kept came es p next.came_there) ∙ is) in
            subst (λ n. Fine code b2 n z) (sym h) (subst (Fine code b2 p) (sym zx) fine_here)
        by (inr h) =
            let c = s.went q h in
            fine_grows code (within came a) b2 q z rises (s.fine q z (within_there came a q c ∙ sym (within_there came2 a q (come_kept came es q c)) ∙ e) h)

    waits_not : (q : ℕ) → get_or gone2 q false ≡ false → (p < length gone) → q ≡ p → ⊥
    waits_not q w lt e = true≢false (sym (get_or-set_same gone p true false lt) ∙ sym (ap (λ n. get_or gone2 n false) e) ∙ w)

    first2 : (p < length gone) → (q : ℕ) → IsSet came2 q → get_or gone2 q false ≡ false → (z : At) × IsPending goes.0 q z
    first2 lt q c w = by_old (get_or came q false) refl
      where
        ne : q ≡ p → ⊥
        ne = waits_not q w lt

        waited : get_or gone q false ≡ false
        waited = sym (get_or-set_other gone p q true false ne) ∙ w

        -- something came there first
        new : get_or came q false ≡ false → (z : At) → at goes.0 q ≡ Some z → IsPending goes.0 q z ⊎ IsDone goes.0 q z → (z : At) × IsPending goes.0 q z
        new n z e (inl h) = (z, h)
        new n z e (inr d) =
            let before = done_before t p y l.pending q z (done.puts.done q z d) ne in
            absurd (true≢false (sym (came_there code a came gone t s q z (done_is t q z before)) ∙ n))

        arrived : get_or came q false ≡ false → IsSet came q ⊎ ((z : At) × (a q ≡ Some z)) → (z : At) × IsPending goes.0 q z
        arrived n (inl h) = absurd (true≢false (sym h ∙ n))
        arrived n (inr r) = let m = above2 q r.0 (within_there came2 a q c ∙ r.1) in new n m.at m.is (seen_cases goes.0 q m.at m.is)

        by_old : (f : Bool) → get_or came q false ≡ f → (z : At) × IsPending goes.0 q z
        by_old true e = let m = s.first q e waited in still code a came gone t p y goes.0 l.pending done q m.0 m.1 ne
        by_old false e = arrived e (come_there a came came es q k.lead c)

    on : p < length gone → Stage code a came2 gone2 goes.0
    on lt = record {
      comes = Comes.goes s.comes l goes.1;
      long = long2;
      between = record { below = goes.2; above = above2 };
      went = went2;
      fine = fine2;
      first = first2 lt;
    }

  -- its visit is good, and more positions are reached
  pub visited_first : p < length gone → Staged code a came gone → Staged code a came2 gone2
  visited_first lt s = let m = settled code a came gone s p next in ((goes m.table m.stage m.shape m.least).0, on m.table m.stage m.shape m.least lt)
