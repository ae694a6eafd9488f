-- The walk before the first visit, and how it goes on.
use Rattle.std.proofs.Common.{◌≡◌, ◌≢◌, ℕ, zero, suc, ◌<◌, ◌≤◌, ◌⊎◌, inl, inr, Bool, true, false, List, [], ◌∷◌, length, drop, get_or, map, ◌++◌, replicate, set, Some, None, refl, sym, ap, subst, ◌∙◌, arith}
use Rattle.std.specs.Prelude.{nat_lt, slice_get, if◌then◌else◌}
use Rattle.std.specs.Bool.{OnTrue}
use Rattle.std.proofs.lemmas.Bool.{and_from, false≢true, true≢false}
use Rattle.std.proofs.lemmas.Bool.Decides.{nat_tests}
use Rattle.std.proofs.lemmas.List.{length-set, get_or-set_other}
use Rattle.bc_flow.specs.bc_shapes.Shape.{At, Under}
use Rattle.bc_flow.proofs.bc_shapes_lemmas.Joins.{under_refl}
use Rattle.bc_flow.specs.Action.{Action}
use Rattle.bc_flow.specs.Code.{Code}
use Rattle.bc_flow.specs.Edges.{Edge, behind, change, edge_of, edges, falls, next_way}
use Rattle.bc_flow.specs.declared.edges.Edge.{Edge as RustEdge}
use Rattle.bc_flow.specs.Views.{edge_of_rust}
use Rattle.bc_flow.specs.Verified.{Assigned, Comes, IsPending, Leads, Unseen, at, begin, here, table_at}
use Rattle.bc_flow.proofs.Puts.{some_is}
use Rattle.bc_certificates.specs.Rows.{Rows, brought, carried, fall, goes_on, or_else, other_ways, row}
use Rattle.bc_certificates.proofs.Carrying.{ways_are}
use Rattle.bc_certificates.proofs.Checks.{brings_is}
use Rattle.bc_refusals.specs.declared.arriving.Carried.{Carried}
use Rattle.bc_refusals.specs.declared.walk.Walk.{Walk}
use Rattle.bc_refusals.specs.Stages.{BeginAll, Begins, first, more, IsNext, IsSet, Keeps, LeadAll, Stage, Staged, come, opened, within}
use Rattle.bc_refusals.specs.Views.{IsCarried, Passed}
use Rattle.bc_refusals.specs.Walks.{Follows, IsInner}
use Rattle.bc_refusals.proofs.Stages.{come-long, set_inside, visited_first, within_is}

clear : (n p : ℕ) → get_or (replicate n false) p false ≡ false
clear zero p = refl
clear (suc n) zero = refl
clear (suc n) (suc p) = clear n p

pub none_set : (n p : ℕ) → IsSet (replicate n false) p → ⊥
none_set n p h = true≢false (sym h ∙ clear n p)

none_seen : (n p : ℕ) (x : At) → at (replicate n Unseen) p ≡ Some x → ⊥
none_seen zero p x e = cc
none_seen (suc n) zero x e = cc
none_seen (suc n) (suc p) x e = none_seen n p x e

clear-long : (n : ℕ) → length (replicate n false) ≡ n
clear-long zero = refl
clear-long (suc n) = ap suc (clear-long n)

module _ (code : Code) (a : Assigned) (n : ℕ) (long : length code.actions ≡ suc n) (is : a 0 ≡ Some begin) where
  below_start : (p : ℕ) (x : At) → at (table_at (suc n)) p ≡ Some x → Leads (within (true ∷ replicate n false) a) (record { to = p; at = x })
  below_start zero x e = record { at = begin; is = is; under = subst (λ z. Under z begin) (some_is begin x e) (under_refl begin) }
  below_start (suc p) x e = absurd (none_seen n p x e)

  above_start : (p : ℕ) (x : At) → within (true ∷ replicate n false) a p ≡ Some x → Leads (at (table_at (suc n))) (record { to = p; at = opened x })
  above_start zero x e = record { at = begin; is = refl; under = subst (λ z. Under (opened z) begin) (some_is begin x (sym is ∙ e)) (under_refl begin) }
  above_start (suc p) x e = absurd (none_set n p (within_is (true ∷ replicate n false) a (suc p) x e))

  first_start : (p : ℕ) → IsSet (true ∷ replicate n false) p → (y : At) × IsPending (table_at (suc n)) p y
  first_start zero c = (begin, here)
  first_start (suc p) c = absurd (none_set n p c)

  starts : Stage code a (true ∷ replicate n false) (false ∷ replicate n false) (table_at (suc n))
  starts = record {
    comes = subst (λ m. Comes code (table_at m)) long Comes.starts;
    long = ap suc (clear-long n) ∙ sym long;
    between = record { below = record { each = below_start }; above = above_start };
    went = λ p g. absurd (none_set (suc n) p g);
    fine = λ p x e g. absurd (none_set (suc n) p g);
    first = λ p c w. first_start p c;
  }

-- the walk that starts
pub follows_start : (code : Code) (rows : Rows) (w : Walk) (n : ℕ) → length code.actions ≡ n → (n ≡ 0 → ⊥) → row rows 0 ≡ Some begin → w.came.items ≡ set (replicate n false) 0 true → w.gone.items ≡ replicate n false → w.from ≡ 0 → w.carried.here ≡ false → Follows code rows w
follows_start code rows w zero long ne is c g f h = absurd (ne refl)
follows_start code rows w (suc n) long ne is c g f h = record {
  staged = subst (λ cs. Staged code (carried code rows) cs w.gone.items) (sym c) (subst (Staged code (carried code rows) (true ∷ replicate n false)) (sym g) (table_at (suc n), starts code (carried code rows) n long is));
  wide = ap length g ∙ sym (ap length c);
  passed = λ p lt s u. absurd (omega (arith, lt, f));
  known = λ e. absurd (true≢false (sym e ∙ h));
}

-- what the instruction brings to the next position is carried there
pub carried_on : (code : Code) (rows : Rows) (p : ℕ) (i : Action) (x : At) (e : Edge) → slice_get code.actions p ≡ Some i → carried code rows p ≡ Some x → row rows (suc p) ≡ None → falls i ≡ true → nat_lt (suc p) (length code.actions) ≡ true → e ≡ fall p i x → carried code rows (suc p) ≡ Some e.at
carried_on code rows p i x e is there none f lt h =
    ap (λ o. or_else o (brought code p (carried code rows p))) none
    ∙ ap (brought code p) there
    ∙ sym (brings_is code p i x true is (and_from (falls i) (nat_lt (suc p) (length code.actions)) f lt))
    ∙ ap (λ z. Some z.at) (sym h)

split_first : {A B : Type 0} → (f : A → B) (xs : List A) (y : B) (ys : List B) → map f xs ≡ y ∷ ys → map f (drop 1 xs) ≡ ys
split_first f [] y ys e = cc
split_first f (x ∷ xs) y ys e = cc

first_way : (code : Code) (p : ℕ) (i : Action) (x : At) (b : Bool) → b ≡ true → map (edge_of i x) (next_way b p (behind (change i) (length x.slots) x.entries) ++ other_ways i (length x.slots) x.entries) ≡ fall p i x ∷ map (edge_of i x) (other_ways i (length x.slots) x.entries)
first_way code p i x true e = refl
first_way code p i x false e = absurd (false≢true e)

-- the edge to the next position leads to what is carried there
pub inner_leads : (code : Code) (rows : Rows) (came : List Bool) (p : ℕ) (i : Action) (x : At) (es : List RustEdge) → IsInner code rows i p → length came ≡ length code.actions → slice_get code.actions p ≡ Some i → carried code rows p ≡ Some x → map edge_of_rust es ≡ edges code i p x → LeadAll (carried code rows) came (map edge_of_rust (drop 1 es)) → LeadAll (carried code rows) came (map edge_of_rust es)
inner_leads code rows came p i x es n long is there along lead =
    let goes = and_from (falls i) (nat_lt (suc p) (length code.actions)) n.goes n.there in
    let parts : map edge_of_rust es ≡ fall p i x ∷ map (edge_of i x) (other_ways i (length x.slots) x.entries) =
    along ∙ ap (map (edge_of i x)) (ways_are code i p (length x.slots) x.entries) ∙ first_way code p i x (goes_on code p i) goes in
    let rest = split_first edge_of_rust es _ _ parts in
    subst (LeadAll (carried code rows) came) (sym parts) (
      record {
        inside = grind (arith, nat_tests, n.there, long);
        leads = record { at = (fall p i x).at; is = carried_on code rows p i x (fall p i x) is there n.no_row n.goes n.there refl; under = under_refl (fall p i x).at };
      },
      subst (LeadAll (carried code rows) came) rest lead,
    )

begin_more : (a : Assigned) (came : List Bool) (e : Edge) (all es : List Edge) → BeginAll a came all es → BeginAll a came (e ∷ all) es
begin_more a came e all [] h = tt
begin_more a came e all (f ∷ es) h = (by h.0, begin_more a came e all es h.1)
  where
    by : IsSet came f.to ⊎ Begins a f.to all → IsSet came f.to ⊎ Begins a f.to (e ∷ all)
    by (inl c) = inl c
    by (inr b) = inr (b.0, b.1, more b.2)

-- and it is what came there first
pub inner_begins : (code : Code) (rows : Rows) (came : List Bool) (p : ℕ) (i : Action) (x : At) (es : List RustEdge) → IsInner code rows i p → slice_get code.actions p ≡ Some i → carried code rows p ≡ Some x → map edge_of_rust es ≡ edges code i p x → BeginAll (carried code rows) came (map edge_of_rust (drop 1 es)) (map edge_of_rust (drop 1 es)) → BeginAll (carried code rows) came (map edge_of_rust es) (map edge_of_rust es)
inner_begins code rows came p i x es n is there along h =
    let goes = and_from (falls i) (nat_lt (suc p) (length code.actions)) n.goes n.there in
    let others = map (edge_of i x) (other_ways i (length x.slots) x.entries) in
    let parts : map edge_of_rust es ≡ fall p i x ∷ others =
    along ∙ ap (map (edge_of i x)) (ways_are code i p (length x.slots) x.entries) ∙ first_way code p i x (goes_on code p i) goes in
    let rest = split_first edge_of_rust es _ _ parts in
    subst (λ z. BeginAll (carried code rows) came z z) (sym parts) (
      inr ((fall p i x).at, carried_on code rows p i x (fall p i x) is there n.no_row n.goes n.there refl, first refl (under_refl (opened (fall p i x).at))),
      begin_more (carried code rows) came (fall p i x) others others (subst (λ z. BeginAll (carried code rows) came z z) rest h),
    )

-- so all edges lead, where those do that are left to look at
module _ (code : Code) (rows : Rows) (came : List Bool) (p : ℕ) (i : Action) (x : At) (es : List RustEdge) (is : slice_get code.actions p ≡ Some i) (there : carried code rows p ≡ Some x) (along : map edge_of_rust es ≡ edges code i p x) where
  pub rows_lead : (rs : List RustEdge) (b : Bool) → OnTrue b (IsInner code rows i p) → rs ≡ (if b then drop 1 es else es) → length came ≡ length code.actions → LeadAll (carried code rows) came (map edge_of_rust rs) → LeadAll (carried code rows) came (edges code i p x)
  rows_lead rs true n e long l = subst (LeadAll (carried code rows) came) along (inner_leads code rows came p i x es n long is there along (subst (λ z. LeadAll (carried code rows) came (map edge_of_rust z)) e l))
  rows_lead rs false n e long l = subst (LeadAll (carried code rows) came) along (subst (λ z. LeadAll (carried code rows) came (map edge_of_rust z)) e l)

  pub rows_begin : (rs : List RustEdge) (b : Bool) → OnTrue b (IsInner code rows i p) → rs ≡ (if b then drop 1 es else es) → BeginAll (carried code rows) came (map edge_of_rust rs) (map edge_of_rust rs) → BeginAll (carried code rows) came (edges code i p x) (edges code i p x)
  rows_begin rs true n e h = subst (λ z. BeginAll (carried code rows) came z z) along (inner_begins code rows came p i x es n is there along (subst (λ z. BeginAll (carried code rows) came (map edge_of_rust z) (map edge_of_rust z)) e h))
  rows_begin rs false n e h = subst (λ z. BeginAll (carried code rows) came z z) along (subst (λ z. BeginAll (carried code rows) came (map edge_of_rust z) (map edge_of_rust z)) e h)

-- the walk behind a position that keeps the rules
module _ (code : Code) (rows : Rows) (w v : Walk) (p : ℕ) (x : At) (f : Follows code rows w) (next : IsNext w.came.items w.gone.items p) (there : carried code rows p ≡ Some x) (k : Keeps code (carried code rows) w.came.items p x) where
  inside : p < length w.gone.items
  inside = let lt = set_inside w.came.items p next.came_there in let e = f.wide in omega (arith, lt, e)

  passed_on : (came2 gone2 : List Bool) (from : ℕ) → gone2 ≡ set w.gone.items p true → from ≤ p → ((q : ℕ) → q < from → IsSet came2 q → IsSet w.came.items q) → Passed came2 gone2 from
  passed_on came2 gone2 from g le old q lt c u =
      let ne : q ≢ p = λ e. absurd (omega (arith, lt, le, e)) in
      let waits : get_or w.gone.items q false ≡ false = sym (get_or-set_other w.gone.items p q true false ne) ∙ sym (ap (λ z. get_or z q false) g) ∙ u in
      by (next.least q (old q lt c) waits)
    where
      by : p < q ⊎ (p ≡ q) → ⊥
      by (inl a) = absurd (omega (arith, a, lt, le))
      by (inr e) = absurd (omega (arith, e, lt, le))

  pub follows_on : (es : List Edge) → es ≡ edges code k.action p x → v.came.items ≡ come w.came.items es → v.gone.items ≡ set w.gone.items p true → v.from ≤ p → ((q : ℕ) → q < v.from → IsSet v.came.items q → IsSet w.came.items q) → v.carried ≡ w.carried → Follows code rows v
  follows_on es along c g le old kept =
      let c2 : v.came.items ≡ come w.came.items (edges code k.action p x) = c ∙ ap (come w.came.items) along in
      record {
        staged = subst (λ cs. Staged code (carried code rows) cs v.gone.items) (sym c2)
            (subst (Staged code (carried code rows) (come w.came.items (edges code k.action p x))) (sym g)
            (visited_first code (carried code rows) w.came.items w.gone.items p x there next k inside f.staged));
        wide = ap length g ∙ length-set w.gone.items p true ∙ f.wide ∙ sym (come-long w.came.items (edges code k.action p x)) ∙ sym (ap length c2);
        passed = passed_on v.came.items v.gone.items v.from g le old;
        known = subst (IsCarried code rows) (sym kept) f.known;
      }

-- another position's shape is known
pub known_on : (code : Code) (rows : Rows) (w : Walk) (c : Carried) → Follows code rows w → IsCarried code rows c → Follows code rows (record w { carried = c })
known_on code rows w c f k = record { staged = f.staged; wide = f.wide; passed = f.passed; known = k }
